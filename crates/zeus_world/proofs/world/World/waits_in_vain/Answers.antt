use Rattle.std.proofs.Common.{refl, sym, ◌∙◌, arith, ap, ◌≡◌, ◌<◌, ◌-◌, ◌+◌, false, true, subst, ℕ}
use Rattle.zeus_model.specs.Readers.{is_acked, waits_in_vain}
use Rattle.zeus_model.specs.World.{World, tx_decl}
use Rattle.zeus_txn.specs.declared.tx.TxDecl.{TxDecl}
use Rattle.std.specs.Prelude.{IfSome, length}
use Rattle.zeus_world.specs.Shown.{shown}
use Rattle.zeus_world.proofs.Keeping.{known}
use Rattle.zeus_world.proofs.Viewing.{after_there, some_there, vain_acked, vain_end, vain_ended, vain_later, vain_none}
use Rattle.zeus_world.proofs.world.World.waits_in_vain.Goals as goal

pub loop-turn-init : goal.loop-turn-init
loop-turn-init c =
    let all : c.id.inside.0 - 0 ≡ c.args.id = let e = c.id.view_is in omega arith in
    let there = rw (← c.self.view_is) at c.requires in
    let here = after_there (shown c.self.inside) c.args.id (known _ _ c.self.invariant).ranged there in
    let now : IfSome (tx_decl c.args.self.now c.args.id).after (λ j. j < length c.args.self.now.txs) = rw (← c.self.view_is) here in
    record {
      goes = rw (all, c.declared.ensures) refl;
      there = rw c.declared.ensures now;
    }

pub returns-in_default : goal.returns-in_default
returns-in_default c = sym (vain_none c.args.self.now (c.id.inside.0 - c.loop-turn._turn) c.loop-turn.after c.in_default.is) ∙ c.loop-turn.invariant.goes

pub returns-then-is_acked : goal.returns-then-is_acked
returns-then-is_acked c =
    let left : 0 < c.id.inside.0 - c.loop-turn._turn = let h = c.loop-turn-test.true in omega arith in
    let acked : is_acked c.args.self.now c.in-Some.other ≡ true = sym (ap (λ (w : World). is_acked w c.in-Some.other) c.self.view_is) ∙ sym c.is_acked.ensures ∙ c.if-is_acked.true in
    sym (vain_acked c.args.self.now (c.id.inside.0 - c.loop-turn._turn) c.in-Some.other c.loop-turn.after left c.in-Some.is acked) ∙ c.loop-turn.invariant.goes

pub returns-then-is_ended : goal.returns-then-is_ended
returns-then-is_ended c =
    let left : 0 < c.id.inside.0 - c.loop-turn._turn = let h = c.loop-turn-test.true in omega arith in
    let acked : is_acked c.args.self.now c.in-Some.other ≡ false = sym (ap (λ (w : World). is_acked w c.in-Some.other) c.self.view_is) ∙ sym c.is_acked.ensures ∙ c.if-is_acked.false in
    sym (vain_ended c.args.self.now (c.id.inside.0 - c.loop-turn._turn) c.in-Some.other c.loop-turn.after left c.in-Some.is acked (sym c.is_ended.ensures ∙ c.if-is_ended.true)) ∙ c.loop-turn.invariant.goes

pub loop-turn-preserved : goal.loop-turn-preserved
loop-turn-preserved c =
    let left : 0 < c.id.inside.0 - c.loop-turn._turn = let h = c.loop-turn-test.true in omega arith in
    let less : c.id.inside.0 - (c.loop-turn._turn + 1) ≡ c.id.inside.0 - c.loop-turn._turn - 1 = omega arith in
    let acked : is_acked c.args.self.now c.in-Some.other ≡ false = sym (ap (λ (w : World). is_acked w c.in-Some.other) c.self.view_is) ∙ sym c.is_acked.ensures ∙ c.if-is_acked.false in
    let there : c.in-Some.other < length c.args.self.now.txs = some_there c.loop-turn.after c.in-Some.other (length c.args.self.now.txs) c.in-Some.is c.loop-turn.invariant.there in
    let inside = rw (← c.self.view_is) at there in
    let here = after_there (shown c.self.inside) c.in-Some.other (known _ _ c.self.invariant).ranged inside in
    let now : IfSome (tx_decl c.args.self.now c.in-Some.other).after (λ j. j < length c.args.self.now.txs) = rw (← c.self.view_is) here in
    record {
      goes =
          rw (less, c.declared-in-loop-turn.ensures)
          (vain_later c.args.self.now (c.id.inside.0 - c.loop-turn._turn) c.in-Some.other c.loop-turn.after left c.in-Some.is acked (sym c.is_ended.ensures ∙ c.if-is_ended.false) ∙ c.loop-turn.invariant.goes);
      there = rw c.declared-in-loop-turn.ensures now;
    }

pub returns : goal.returns
returns c =
    let none : c.id.inside.0 - c.loop-turn._turn ≡ 0 = let h = c.loop-turn-test.false in omega arith in
    sym (vain_end c.args.self.now (c.id.inside.0 - c.loop-turn._turn) c.loop-turn.after none) ∙ c.loop-turn.invariant.goes
