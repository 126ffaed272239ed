-- What a try to read is told.
use Rattle.std.specs.Prelude.{List, Option, Some, None}
use Rattle.zeus_txn.specs.Ops.{named}
use Rattle.zeus_txn.specs.declared.ops.Op.{Op}
use Rattle.zeus_txn.specs.declared.reply.Reply.{Reply}
use Rattle.zeus_model.specs.declared.state.Copy.{Copy}
use Rattle.zeus_model.specs.Local.{Hindrance, hindrance_at}
use Rattle.zeus_model.specs.Local as rules
use Rattle.zeus_model.specs.Tables.{first_of, nth}
use Rattle.replica_reads.specs.declared.reads.Hindrance.{Hindrance as Found}
use Rattle.replica_reads.specs.declared.reads.Hindrance.TheVariants.{Missing, Unready}
use Rattle.replica_reads.specs.declared.reads.ReadTry.{ReadTry}
use Rattle.replica_reads.specs.declared.reads.ReadTry.TheVariants.{NoCopy, NotValid, Read}

-- what hinders a read is told, and else the reply
unfoldable pub read_told : Option Hindrance → Reply → ReadTry
read_told (Some (rules.Missing x)) reply = NoCopy x
read_told (Some (rules.Unready x state)) reply = NotValid x state
read_told None reply = Read reply

-- the first named object that hinders a read of these copies
unfoldable pub hindrance_among : List (Option Copy) → List Op → Option Hindrance
hindrance_among copies tx = first_of (λ x. hindrance_at x (nth None copies x)) (named tx)

-- what was found to hinder a read, as the rules say it
unfoldable pub told_hindrance : Option Found → Option Hindrance
told_hindrance None = None
told_hindrance (Some (Missing x)) = Some (rules.Missing x)
told_hindrance (Some (Unready x state)) = Some (rules.Unready x state)
