-- What the arguments of the program ask for, and its exit status.
use Rattle.std.specs.Prelude.{ℕ, ◌≡◌, drop, Result, Ok, Err, String}
use Rattle.std.specs.Vec.Iter.{into_iter_items}
use Rattle.std.specs.declared.vec.IntoIter.{IntoIter}
use Rattle.zeus_io.specs.Status.{exit_status}
use Rattle.zeus_io.specs.declared.status.Status.{Status}
use Rattle.bank_report.specs.declared.numbers.BankNumbers.{BankNumbers}
use Rattle.smallbank.specs.Top.{AsksBy, IsAnswered, Sinks}

-- the words behind the program's own name ask for this bank; arguments that are no text ask for none
abbrev pub AsksBankBy : {A E : Type 0} → Result (IntoIter (String A) A) E → BankNumbers → Type 0
AsksBankBy (Ok args) n = AsksBy (drop 1 (into_iter_items args)) n
AsksBankBy (Err e) n = ⊥

-- the program ends with the number of the status by which it answers
pub record EndsBy (asks : BankNumbers → Type 0) (s : Sinks) (number : ℕ) : Type 0 where
  pub status : Status
  pub number_is : number ≡ exit_status status
  pub answered : IsAnswered asks s status
