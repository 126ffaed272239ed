-- How the program ends: what it answers to each command, and what it writes.
use Rattle.std.specs.Prelude.{ℕ, ◌≡◌, ◌⊎◌, false, List, codes, Option, Some, None, Result, String}
use Rattle.std.specs.Io.KnownBytes.{Appends}
use Rattle.std.specs.declared.vec.IntoIter.{IntoIter}
use Rattle.script_lang.specs.OneFault.{SpellsScript}
use Rattle.zeus_lease.specs.Faults.{SpellsScript as SpellsLeases}
use Rattle.zeus_io.specs.Bytes.{AppendsFront}
use Rattle.zeus_io.specs.Faults.{Rose}
use Rattle.zeus_io.specs.Status.{exit_status}
use Rattle.zeus_io.specs.declared.status.Status.{Status}
use Rattle.zeus_io.specs.declared.status.Status.TheVariants.{Done, Unfinished, Usage, ReadFault as ReadFaultStatus, WriteFault, OutOfMemory, Unsound}
use Rattle.zeus_cli.specs.Command.{Asks, AsksBy}
use Rattle.zeus_cli.specs.Inputs.{Holds}
use Rattle.zeus_cli.specs.Audits.{IsAuditAnswer, IsAuditInput}
use Rattle.zeus_cli.specs.Leases.{IsLeaseAnswer}
use Rattle.zeus_cli.specs.Runs.{IsRunAnswer}
use Rattle.zeus_cli.specs.Storms.{IsStormAnswer}
use Rattle.zeus_cli.specs.declared.command.Command.{Command}
use Rattle.zeus_cli.specs.declared.command.Command.TheVariants.{Run, Lease, Audit, Storm}
use Rattle.zeus_cli.specs.declared.input.Halt.{Halt}
use Rattle.zeus_cli.specs.declared.input.Halt.TheVariants.{ReadFault, NoMemory}

-- ---- the answer to each command: its status and its text

-- the line for words that the program does not know
abbrev pub usage_line : List ℕ
usage_line = codes "usage\n"

-- the answer to a command, by what was taken from the source; to other words the line `usage`
abbrev pub IsAnswer : Option Command → Option (List ℕ) → Option (List ℕ) → Status → List ℕ → Type 0
IsAnswer None before after status text = (status ≡ Usage) × (text ≡ usage_line)
IsAnswer (Some Run) before after status text = IsRunAnswer before after status text
IsAnswer (Some Lease) before after status text = IsLeaseAnswer before after status text
IsAnswer (Some Audit) before after status text = IsAuditAnswer before after status text
IsAnswer (Some (Storm n)) before after status text = IsStormAnswer n status text

-- the source tells that it has an input of the command left; a storm reads none
abbrev pub HasInput : Command → Option (List ℕ) → Type 0
HasInput Run before = Holds before (SpellsScript false)
HasInput Lease before = Holds before SpellsLeases
HasInput Audit before = Holds before IsAuditInput
HasInput (Storm n) before = Unit {0}

-- the statuses of the answers to an input
abbrev pub IsAnswered : Command → Status → Type 0
IsAnswered Run status = status ≡ Done
IsAnswered Lease status = status ≡ Done
IsAnswered Audit status = (status ≡ Done) ⊎ (status ≡ Unsound)
IsAnswered (Storm n) status = (status ≡ Done) ⊎ (status ≡ Unfinished)

-- ---- the end

-- the statuses by which a command ends that has no answer: the source failed, or memory ran out
abbrev pub IsHalt : Option Command → Status → Type 0
IsHalt None status = ⊥
IsHalt (Some Run) status = (status ≡ ReadFaultStatus) ⊎ (status ≡ OutOfMemory)
IsHalt (Some Lease) status = (status ≡ ReadFaultStatus) ⊎ (status ≡ OutOfMemory)
IsHalt (Some Audit) status = (status ≡ ReadFaultStatus) ⊎ (status ≡ OutOfMemory)
IsHalt (Some (Storm n)) status = status ≡ OutOfMemory

abbrev pub status_of_halt : Halt → Status
status_of_halt ReadFault = ReadFaultStatus
status_of_halt NoMemory = OutOfMemory

-- a text was written whole, behind what the sink held
pub record Writes (before after : Option (List ℕ)) (P : List ℕ → Type 0) : Type 0 where
  pub text : List ℕ
  pub written : Appends before after text
  pub is_so : P text

-- the front of a text was written, and not all of it
pub record WritesFront (before after : Option (List ℕ)) (P : List ℕ → Type 0) : Type 0 where
  pub text : List ℕ
  pub written : AppendsFront before after text
  pub is_so : P text

-- this is the text of an answer, whatever the status of that
pub record IsText (c : Option Command) (before after : Option (List ℕ)) (text : List ℕ) : Type 0 where
  pub status : Status
  pub answer : IsAnswer c before after status text

-- the text of the answer is written whole, and its status is the end; or the sink failed behind a front of it; or there is
-- no answer, and nothing is written
abbrev pub Ends : Option Command → Option (List ℕ) → Option (List ℕ) → Option (List ℕ) → Option (List ℕ) → Status → Type 0
Ends c before after held now status =
    Writes held now (IsAnswer c before after status)
    ⊎ ((status ≡ WriteFault) × WritesFront held now (IsText c before after))
    ⊎ (IsHalt c status × (now ≡ held))

-- so the program ends by its words: before and after are the bytes that the source has left, held and now those of the sink
pub record EndsBy (words : List (List ℕ)) (before after held now : Option (List ℕ)) (status : Status) : Type 0 where
  pub command : Option Command
  pub asked : Asks words command
  pub ends : Ends command before after held now status

-- the same by its arguments, with the number of the status
pub record EndsByArgs {A E : Type 0} (args : Result (IntoIter (String A) A) E) (before after held now : Option (List ℕ)) (number : ℕ) : Type 0 where
  pub command : Option Command
  pub asked : AsksBy args command
  pub status : Status
  pub number_is : number ≡ exit_status status
  pub ends : Ends command before after held now status

-- memory ran out for the arguments: nothing is read or written
pub record IsStarved (before after held now : Option (List ℕ)) (number : ℕ) : Type 0 where
  pub number_is : number ≡ exit_status OutOfMemory
  pub unread : after ≡ before
  pub unwritten : now ≡ held

-- memory ran out, or the status is one of the answers to an input of the command
abbrev pub IsComplete : Command → Status → Type 0
IsComplete c status = IsAnswered c status ⊎ (status ≡ OutOfMemory)

pub record IsCompleteBy (c : Command) (number : ℕ) : Type 0 where
  pub status : Status
  pub number_is : number ≡ exit_status status
  pub complete : IsComplete c status

-- ---- the writing

-- the text was written whole and without a fault, or a front of it before the sink failed
abbrev pub IsWritten : Option (List ℕ) → Option (List ℕ) → ℕ → ℕ → List ℕ → Status → Status → Type 0
IsWritten held now faults_before faults_after text status result =
    ((result ≡ status) × (faults_after ≡ faults_before) × Appends held now text)
    ⊎ ((result ≡ WriteFault) × Rose faults_before faults_after × AppendsFront held now text)
