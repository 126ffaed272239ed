-- How a command ends: what its answer, its halt and its words tell of the end.
use Rattle.std.proofs.Common.{ℕ, ◌≡◌, ◌≢◌, ◌≤◌, ◌∙◌, false, List, [], ◌∷◌, length, map, drop, Option, Some, None, length-append, arith, subst, sym, refl, inl, inr, ap}
use Rattle.std.specs.Prelude.{◌⊎◌, ◌==◌, Result, Ok, Err, String, string_bytes}
use Rattle.std.specs.Io.KnownBytes.{Consumes}
use Rattle.std.specs.Vec.Iter.{into_iter_items}
use Rattle.std.specs.declared.vec.IntoIter.{IntoIter}
use Rattle.std.proofs.lemmas.Bool.{cond_both}
use Rattle.std.proofs.lemmas.List.{append-nil}
use Rattle.zeus_io.specs.Bytes.{Takes}
use Rattle.zeus_io.specs.Faults.{Rose}
use Rattle.zeus_io.specs.Status.{exit_status}
use Rattle.zeus_io.specs.declared.status.Status.{Status}
use Rattle.zeus_io.specs.declared.status.Status.TheVariants.{Done, Unfinished, Usage, ReadFault as ReadFaultStatus, WriteFault, OutOfMemory, Unsound}
use Rattle.zeus_model.specs.declared.fault.ScriptFault.{ScriptFault}
use Rattle.script_lang.specs.OneFault.{SpellsScript}
use Rattle.script_lang.specs.Reading.{script_read}
use Rattle.zeus_audit.specs.Inputs.{input_audited}
use Rattle.zeus_audit.specs.declared.verdict.Verdict.{Verdict}
use Rattle.zeus_audit.specs.declared.verdict.Verdict.TheVariants.{Sound, Fails}
use Rattle.zeus_lease.specs.Faults.{SpellsScript as SpellsLeases}
use Rattle.zeus_lease.specs.Reading.{script_read as leases_read}
use Rattle.storm.specs.Storm.{storm_end}
use Rattle.storm.specs.declared.numbers.StormNumbers.{StormNumbers}
use Rattle.zeus_cli.specs.Command.{Asks, AsksBy, command_words}
use Rattle.zeus_cli.specs.Ends.{Ends, EndsBy, EndsByArgs, HasInput, IsAnswer, IsAnswered, IsComplete, IsCompleteBy, IsHalt, IsWritten, status_of_halt}
use Rattle.zeus_cli.specs.Audits.{IsAuditInput, IsAuditRefusal, IsNoAuditInput, longest_audited, verdict_status}
use Rattle.zeus_cli.specs.Inputs.{Holds}
use Rattle.zeus_cli.specs.Leases.{IsLeaseRefusal, IsNoLeases}
use Rattle.zeus_cli.specs.Refusal.{IsRefused}
use Rattle.zeus_cli.specs.Runs.{IsNoScript, IsRefusal, longest}
use Rattle.zeus_cli.specs.Storms.{storm_status}
use Rattle.zeus_cli.specs.declared.command.Command.{Command}
use Rattle.zeus_cli.specs.declared.command.Command.TheVariants.{Run, Lease, Audit, Storm}
use Rattle.zeus_cli.specs.declared.input.Halt.{Halt}
use Rattle.zeus_cli.specs.declared.input.Halt.TheVariants.{ReadFault, NoMemory}

-- ---- the status of an answer

storm_plain : (n : StormNumbers) → (storm_status n ≡ Done) ⊎ (storm_status n ≡ Unfinished)
unfolding storm_status
storm_plain n =
    cond_both ((storm_end n).unfinished == 0) Done Unfinished (λ (s : Status). (s ≡ Done) ⊎ (s ≡ Unfinished)) (λ _. inl refl) (λ _. inr refl)

-- an answer's status is none of a fault, and none of want of memory
pub record IsPlain (status : Status) : Type 0 where
  pub written : status ≢ WriteFault
  pub read : status ≢ ReadFaultStatus
  pub memory : status ≢ OutOfMemory

plain_storm : (n : StormNumbers) (status : Status) → status ≡ storm_status n → IsPlain status
plain_storm n status is =
    elim (storm_plain n) [
      | inl done ↦ record { written = λ e. cc (done, is, e); read = λ e. cc (done, is, e); memory = λ e. cc (done, is, e) }
      | inr left ↦ record { written = λ e. cc (left, is, e); read = λ e. cc (left, is, e); memory = λ e. cc (left, is, e) }
    ]

verdict_plain : (v : Verdict) → (verdict_status v ≡ Done) ⊎ (verdict_status v ≡ Unsound)
verdict_plain Sound = inl refl
verdict_plain (Fails line rule) = inr refl

plain_verdict : (v : Verdict) (status : Status) → status ≡ verdict_status v → IsPlain status
plain_verdict v status is =
    elim (verdict_plain v) [
      | inl done ↦ record { written = λ e. cc (done, is, e); read = λ e. cc (done, is, e); memory = λ e. cc (done, is, e) }
      | inr unsound ↦ record { written = λ e. cc (unsound, is, e); read = λ e. cc (unsound, is, e); memory = λ e. cc (unsound, is, e) }
    ]

-- the status of an answer is none of a fault, and none of want of memory
pub answer-plain : (c : Option Command) (before after : Option (List ℕ)) (status : Status) (text : List ℕ) → IsAnswer c before after status text → IsPlain status
answer-plain None before after status text h = record { written = λ e. cc (h.0, e); read = λ e. cc (h.0, e); memory = λ e. cc (h.0, e) }
answer-plain (Some Run) before after status text (inl h) = record { written = λ e. cc (h.0, e); read = λ e. cc (h.0, e); memory = λ e. cc (h.0, e) }
answer-plain (Some Run) before after status text (inr h) = record { written = λ e. cc (h.0, e); read = λ e. cc (h.0, e); memory = λ e. cc (h.0, e) }
answer-plain (Some Lease) before after status text (inl h) = record { written = λ e. cc (h.0, e); read = λ e. cc (h.0, e); memory = λ e. cc (h.0, e) }
answer-plain (Some Lease) before after status text (inr h) = record { written = λ e. cc (h.0, e); read = λ e. cc (h.0, e); memory = λ e. cc (h.0, e) }
answer-plain (Some Audit) before after status text (inl h) = plain_verdict h.verdict status h.status_is
answer-plain (Some Audit) before after status text (inr h) = record { written = λ e. cc (h.0, e); read = λ e. cc (h.0, e); memory = λ e. cc (h.0, e) }
answer-plain (Some (Storm n)) before after status text h = plain_storm n status h.status_is

-- the status of wrong usage is none of a fault, and none of want of memory
pub usage-plain : IsPlain Usage
usage-plain = record { written = λ e. cc e; read = λ e. cc e; memory = λ e. cc e }

-- ---- a text that is written

-- what is written of an answer is an end of its command
pub written_ends : (c : Option Command) (before after held now : Option (List ℕ)) (faults later : ℕ) (status result : Status) (text : List ℕ) → IsAnswer c before after status text
    → IsWritten held now faults later text status result → Ends c before after held now result
written_ends c before after held now faults later status result text answer (inl w) =
    inl record { text = text; written = w.2; is_so = rw w.0 answer }
written_ends c before after held now faults later status result text answer (inr w) =
    inr (inl (w.0, record { text = text; written = w.2; is_so = record { status = status; answer = answer } }))

-- the same of a text that is shown
pub shown_ends : (c : Option Command) (before after held now : Option (List ℕ)) (faults later : ℕ) (status result : Status) (shown text : List ℕ) → shown ≡ text → IsAnswer c before after status text
    → IsWritten held now faults later shown status result → Ends c before after held now result
shown_ends c before after held now faults later status result shown text same answer written =
    let shows = subst (λ (t : List ℕ). IsAnswer c before after status t) (sym same) answer in
    written_ends c before after held now faults later status result shown shows written

-- the sink failed exactly if that is the end
pub written_fault : (faults later : ℕ) (held now : Option (List ℕ)) (status result : Status) (text : List ℕ) → IsPlain status → IsWritten held now faults later text status result
    → result ≡ WriteFault → Rose faults later
written_fault faults later held now status result text plain (inl w) e = absurd (plain.written (sym w.0 ∙ e))
written_fault faults later held now status result text plain (inr w) e = w.1

-- if a plain answer was written or its sink failed, then the status is none of a read fault and none of want of memory
pub written_plain : (faults later : ℕ) (held now : Option (List ℕ)) (status result : Status) (text : List ℕ) → IsPlain status → IsWritten held now faults later text status result
    → (result ≢ ReadFaultStatus) × (result ≢ OutOfMemory)
written_plain faults later held now status result text plain (inl w) = (λ e. plain.read (sym w.0 ∙ e), λ e. plain.memory (sym w.0 ∙ e))
written_plain faults later held now status result text plain (inr w) = (λ e. cc (w.0, e), λ e. cc (w.0, e))

-- ---- an input of a command is answered

-- bytes that are no input are not all of one
all_taken : {A : Type 0} (read : List ℕ → Result A ScriptFault) (IsNone : List ℕ → Type 0) (most : ℕ) (bytes taken text : List ℕ) (after : Option (List ℕ)) → Consumes (Some bytes) after taken → length bytes ≤ most
    → ¬ IsNone bytes → IsRefused read IsNone most after text taken → ⊥
all_taken read IsNone most bytes taken text None c few is_input n = c
all_taken read IsNone most bytes taken text (Some rest) c few is_input n =
    elim n.whole [
      | inl none_left ↦
          let same : taken ≡ bytes = cc (append-nil taken) in
          is_input (subst (λ (b : List ℕ). IsNone b) same n.none)
      | inr longer ↦ omega (arith, ap length c, length-append taken rest, few, longer)
    ]

-- where all that was left is an input, no taking of its bytes is that of none
never_refused : {A : Type 0} (read : List ℕ → Result A ScriptFault) (IsNone : List ℕ → Type 0) (most : ℕ) (before after : Option (List ℕ)) (bytes text : List ℕ) → before ≡ Some bytes → length bytes ≤ most
    → ¬ IsNone bytes → Takes before after (IsRefused read IsNone most after text) → ⊥
never_refused read IsNone most before after bytes text known few is_input t =
    let P : Option (List ℕ) → Type 0 = λ old. Consumes old after t.taken in
    all_taken read IsNone most bytes t.taken text after (subst P known t.from_front) few is_input t.holds

script_kept : (before after : Option (List ℕ)) (text : List ℕ) → Holds before (SpellsScript false) → IsRefusal before after text → ⊥
script_kept before after text h t =
    let s = h.is_so in
    never_refused (script_read false) IsNoScript longest before after h.bytes text h.known (omega (arith, s.spelled.script.few_bytes, ap length s.spelled.spelled)) (λ none. none s.script s.spelled) t

leases_kept : (before after : Option (List ℕ)) (text : List ℕ) → Holds before SpellsLeases → IsLeaseRefusal before after text → ⊥
leases_kept before after text h t =
    let s = h.is_so in
    never_refused leases_read IsNoLeases longest before after h.bytes text h.known s.spelled.few_bytes (λ none. none s.script s.spelled) t

audit_kept : (before after : Option (List ℕ)) (text : List ℕ) → Holds before IsAuditInput → IsAuditRefusal before after text → ⊥
audit_kept before after text h t = never_refused input_audited IsNoAuditInput longest_audited before after h.bytes text h.known h.is_so.few_bytes (λ none. none h.is_so) t

-- the first letter of the first word
abbrev initial : List (List ℕ) → ℕ
initial ((letter ∷ letters) ∷ words) = letter
initial ([] ∷ words) = 0
initial [] = 0

-- words are not those of both
lease_or_audit : (words : List (List ℕ)) → words ≡ command_words Lease → words ≡ command_words Audit → ⊥
lease_or_audit words e f = let same : 108 ≡ 97 = ap initial (sym e ∙ f) in omega (arith, same)

-- the answer to a command is one to its input, where there is one
run_answered : (found : Command) (words : List (List ℕ)) (before after : Option (List ℕ)) (status : Status) (text : List ℕ) → words ≡ command_words found → words ≡ command_words Run
    → HasInput Run before → IsAnswer (Some found) before after status text → status ≡ Done
run_answered Run words before after status text e f has (inl h) = h.0
run_answered Run words before after status text e f has (inr h) = absurd (script_kept before after text has h.1)
run_answered Lease words before after status text e f has h = absurd cc
run_answered Audit words before after status text e f has h = absurd cc
run_answered (Storm n) words before after status text e f has h = absurd cc

lease_answered : (found : Command) (words : List (List ℕ)) (before after : Option (List ℕ)) (status : Status) (text : List ℕ) → words ≡ command_words found → words ≡ command_words Lease
    → HasInput Lease before → IsAnswer (Some found) before after status text → status ≡ Done
lease_answered Run words before after status text e f has h = absurd cc
lease_answered Lease words before after status text e f has (inl h) = h.0
lease_answered Lease words before after status text e f has (inr h) = absurd (leases_kept before after text has h.1)
lease_answered Audit words before after status text e f has h = absurd (lease_or_audit words f e)
lease_answered (Storm n) words before after status text e f has h = absurd cc

audit_answered : (found : Command) (words : List (List ℕ)) (before after : Option (List ℕ)) (status : Status) (text : List ℕ) → words ≡ command_words found → words ≡ command_words Audit
    → HasInput Audit before → IsAnswer (Some found) before after status text → IsAnswered Audit status
audit_answered Run words before after status text e f has h = absurd cc
audit_answered Lease words before after status text e f has h = absurd (lease_or_audit words e f)
audit_answered Audit words before after status text e f has (inl h) = elim (verdict_plain h.verdict) [ inl done ↦ inl (h.status_is ∙ done) | inr unsound ↦ inr (h.status_is ∙ unsound) ]
audit_answered Audit words before after status text e f has (inr h) = absurd (audit_kept before after text has h.1)
audit_answered (Storm n) words before after status text e f has h = absurd cc

storm_answered : (found : Command) (words : List (List ℕ)) (before after : Option (List ℕ)) (n : StormNumbers) (status : Status) (text : List ℕ) → words ≡ command_words found → words ≡ command_words (Storm n)
    → IsAnswer (Some found) before after status text → IsAnswered (Storm n) status
storm_answered Run words before after n status text e f h = absurd cc
storm_answered Lease words before after n status text e f h = absurd cc
storm_answered Audit words before after n status text e f h = absurd cc
storm_answered (Storm m) words before after n status text e f h = elim (storm_plain m) [ inl done ↦ inl (h.status_is ∙ done) | inr left ↦ inr (h.status_is ∙ left) ]

-- if the source has an input of the command and the answer is one to it, then the status is one of the answers to an input
pub input_answered : (c found : Command) (words : List (List ℕ)) (before after : Option (List ℕ)) (status : Status) (text : List ℕ) → words ≡ command_words found → words ≡ command_words c → HasInput c before
    → IsAnswer (Some found) before after status text → IsAnswered c status
input_answered Run found words before after status text e f has h = run_answered found words before after status text e f has h
input_answered Lease found words before after status text e f has h = lease_answered found words before after status text e f has h
input_answered Audit found words before after status text e f has h = audit_answered found words before after status text e f has h
input_answered (Storm n) found words before after status text e f has h = storm_answered found words before after n status text e f h

-- of a text that is written without a fault the status is the end
pub written_complete : (c : Command) (faults later : ℕ) (held now : Option (List ℕ)) (status result : Status) (text : List ℕ) → IsAnswered c status → ¬ Rose faults later
    → IsWritten held now faults later text status result → IsComplete c result
written_complete c faults later held now status result text answered quiet (inl w) = inl (subst (λ (s : Status). IsAnswered c s) (sym w.0) answered)
written_complete c faults later held now status result text answered quiet (inr w) = absurd (quiet w.1)

-- ---- from the arguments

-- if the words behind the program's name end a command so, then the arguments end it so, with the number of the status
pub ends_by_args : {A E : Type 0} (args : Result (IntoIter (String A) A) E) (it : IntoIter (String A) A) (words : List (String A)) (before after held now : Option (List ℕ)) (status : Status) (number : ℕ)
    → args ≡ Ok it → words ≡ drop 1 (into_iter_items it) → EndsBy (map string_bytes words) before after held now status → number ≡ exit_status status → EndsByArgs args before after held now number
ends_by_args {A} {E} args it words before after held now status number is same ends number_is =
    let P : List (String A) → Type 0 = λ ws. Asks (map string_bytes ws) ends.command in
    let asked : AsksBy {A = A} {E = E} (Ok it) ends.command = subst P same ends.asked in
    record {
      command = ends.command;
      asked = subst (λ (r : Result (IntoIter (String A) A) E). AsksBy r ends.command) (sym is) asked;
      status = status;
      number_is = number_is;
      ends = ends.ends;
    }

-- arguments ask for a command where the words behind the program's name do
pub complete_by_args : {A E P : Type 0} (args : Result (IntoIter (String A) A) E) (it : IntoIter (String A) A) (words : List (String A)) (c : Command) → args ≡ Ok it → words ≡ drop 1 (into_iter_items it)
    → AsksBy args (Some c) → (Asks (map string_bytes words) (Some c) → P) → P
complete_by_args {A} {E} {P} args it words c is same asked goes =
    let asks : AsksBy {A = A} {E = E} (Ok it) (Some c) = subst (λ (r : Result (IntoIter (String A) A) E). AsksBy r (Some c)) is asked in
    goes (subst (λ (ws : List (String A)). Asks (map string_bytes ws) (Some c)) (sym same) asks)

-- arguments that are no texts ask for no command
pub asks_no_error : {A E : Type 0} (args : Result (IntoIter (String A) A) E) (error : E) (c : Command) → args ≡ Err error → AsksBy args (Some c) → ⊥
asks_no_error {A} {E} args error c is asked =
    let none : AsksBy {A = A} {E = E} (Err error) (Some c) = subst (λ (r : Result (IntoIter (String A) A) E). AsksBy r (Some c)) is asked in
    cc none

-- what the same words ask for
pub asked_as : {A : Type 0} (words same_words : List (String A)) (c found : Option Command) → words ≡ same_words → c ≡ found → Asks (map string_bytes words) c → Asks (map string_bytes same_words) found
asked_as {A} words same_words c found same is asked =
    subst (λ (o : Option Command). Asks (map string_bytes same_words) o) is (subst (λ (ws : List (String A)). Asks (map string_bytes ws) c) same asked)

-- a halt is an end of its command
pub halt_ends : (c : Command) (before after held now : Option (List ℕ)) (halt : Halt) (status : Status) → IsHalt (Some c) (status_of_halt halt) → status ≡ status_of_halt halt → now ≡ held → Ends (Some c) before after held now status
halt_ends c before after held now halt status h is same =
    inr (inr (subst (λ (s : Status). IsHalt (Some c) s) (sym is) h, same))

-- a halt that is the end, by its status
pub halt_read : (halt : Halt) (status : Status) → status ≡ status_of_halt halt → status ≡ ReadFaultStatus → halt ≡ ReadFault
halt_read ReadFault status is e = refl
halt_read NoMemory status is e = absurd (cc (is, e))

-- the status of a halt is none of a write fault
pub halt_unwritten : (halt : Halt) (status : Status) → status ≡ status_of_halt halt → status ≢ WriteFault
halt_unwritten ReadFault status is = λ e. cc (is, e)
halt_unwritten NoMemory status is = λ e. cc (is, e)

-- if a halt is none of a read fault, then its status is that of want of memory
pub halt_starved : (halt : Halt) (status : Status) → status ≡ status_of_halt halt → halt ≢ ReadFault → status ≡ OutOfMemory
halt_starved ReadFault status is other = absurd (other refl)
halt_starved NoMemory status is other = is
