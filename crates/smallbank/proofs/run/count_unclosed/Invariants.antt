use Rattle.std.proofs.Common.{◌≡◌, ◌+◌, ◌-◌, length}
use Rattle.zeus_base.specs.Tables.{numbers_from}
use Rattle.smallbank.specs.Run.{unclosed, unclosed_of}
use Rattle.smallbank.proofs.run.count_unclosed.Given as goal

abbrev pub invariant-loop-number : goal.invariant-loop-number
invariant-loop-number l = l.count + unclosed_of l.world (numbers_from l.number (length l.world.txs - l.number)) ≡ unclosed l.world
