-- What the program of the bank does with its words and its sink.
use Rattle.std.specs.Prelude.{ℕ, zero, suc, ◌≡◌, ◌≢◌, ◌⊎◌, List, Option, String, codes, map, string_bytes}
use Rattle.std.specs.Io.KnownBytes.{Appends}
use Rattle.zeus_io.specs.Bytes.{AppendsFront}
use Rattle.zeus_io.specs.Faults.{Rose}
use Rattle.zeus_io.specs.declared.status.Status.{Status}
use Rattle.zeus_io.specs.declared.status.Status.TheVariants.{Done, Unfinished, Usage, WriteFault, OutOfMemory}
use Rattle.bank_report.specs.Numbers.{AsksBank}
use Rattle.bank_report.specs.declared.numbers.BankNumbers.{BankNumbers}
use Rattle.smallbank.specs.Run.{IsGood, bank_text, bank_world, unclosed}

-- the line for other words
abbrev pub usage_line : List ℕ
usage_line = codes "usage\n"

-- the words ask for this bank
abbrev pub AsksBy : {A : Type 0} → List (String A) → BankNumbers → Type 0
AsksBy words = AsksBank (map string_bytes words)

-- no bank is asked for
abbrev pub AsksNone : (BankNumbers → Type 0) → Type 0
AsksNone asks = (n : BankNumbers) → ¬ asks n

-- this bank is asked for, and its run is good
pub record IsAsked (asks : BankNumbers → Type 0) (n : BankNumbers) : Type 0 where
  pub asked : asks n
  pub good : IsGood n

-- the text that is due to what is asked for
unfoldable pub IsDue : (BankNumbers → Type 0) → List ℕ → Type 0
IsDue asks text = (AsksNone asks × (text ≡ usage_line)) ⊎ ((n : BankNumbers) × IsAsked asks n × (text ≡ bank_text n))

-- a sink before and after
pub record Sinks : Type 0 where
  pub before : Option (List ℕ)
  pub after : Option (List ℕ)
  pub faults_before : ℕ
  pub faults_after : ℕ

-- a sink with what it had written before and after, and its faults before and after
abbrev pub sinks : Option (List ℕ) → Option (List ℕ) → ℕ → ℕ → Sinks
sinks before after faults_before faults_after =
    record { before = before; after = after; faults_before = faults_before; faults_after = faults_after }

-- the text was written whole, without a fault
pub record IsWritten (s : Sinks) (text : List ℕ) : Type 0 where
  pub quiet : s.faults_after ≡ s.faults_before
  pub whole : Appends s.before s.after text

-- the sink failed, behind a front of the text
pub record IsCut (s : Sinks) (text : List ℕ) : Type 0 where
  pub rose : Rose s.faults_before s.faults_after
  pub front : AppendsFront s.before s.after text

-- nothing was written
pub record IsUntouched (s : Sinks) : Type 0 where
  pub quiet : s.faults_after ≡ s.faults_before
  pub same : s.after ≡ s.before

-- the text was written, and the status is this one; or the sink failed
abbrev pub HasEnded : Sinks → List ℕ → Status → Status → Type 0
HasEnded s text status result = ((result ≡ status) × IsWritten s text) ⊎ ((result ≡ WriteFault) × IsCut s text)

-- the status of a run of which so many transactions are not closed
unfoldable pub status_of : ℕ → Status
status_of zero = Done
status_of (suc n) = Unfinished

-- how the program ends, by what is asked for: with the text of the bank, of which all transactions are closed or not, with the
-- line for other words, with a fault of the sink, or without memory and with nothing written
unfoldable pub IsAnswered : (BankNumbers → Type 0) → Sinks → Status → Type 0
IsAnswered asks s Done = (n : BankNumbers) × IsAsked asks n × (unclosed (bank_world n) ≡ 0) × IsWritten s (bank_text n)
IsAnswered asks s Unfinished = (n : BankNumbers) × IsAsked asks n × (unclosed (bank_world n) ≢ 0) × IsWritten s (bank_text n)
IsAnswered asks s Usage = AsksNone asks × IsWritten s usage_line
IsAnswered asks s WriteFault = (text : List ℕ) × IsDue asks text × IsCut s text
IsAnswered asks s OutOfMemory = IsUntouched s
IsAnswered asks s _ = ⊥
