use Rattle.std.proofs.Common.{ℕ, ◌≡◌, ◌<◌, ◌-◌, length}
use Rattle.std.specs.Prelude.{IfSome}
use Rattle.zeus_model.specs.Readers.{waits_in_vain}
use Rattle.zeus_model.specs.World.{tx_decl}
use Rattle.zeus_world.proofs.world.World.waits_in_vain.Given as goal

-- what is left of the chain has the same end, and its next transaction is there
abbrev pub invariant-loop-turn : goal.invariant-loop-turn
invariant-loop-turn l = record {
  goes : waits_in_vain l.self (l._turn-end - l._turn) l.after ≡ waits_in_vain l.fn.self l.fn.id (tx_decl l.fn.self l.fn.id).after;
  there : IfSome l.after (λ j. j < length l.self.txs);
}
