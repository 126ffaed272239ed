-- A transaction that runs on valid copies runs on what they hold.
use Rattle.std.specs.Prelude.{ℕ, ◌≡◌, true, List, [], ◌∷◌, Option, Some, None}
use Rattle.std.proofs.Common.{refl, sym, ap, ◌∙◌, inl, inr}
use Rattle.std.proofs.lemmas.Bool.{eqb-true, or_cases}
use Rattle.zeus_packet.specs.declared.letter.State.{State}
use Rattle.zeus_packet.specs.declared.letter.State.TheVariants.{Valid, Invalid, Write}
use Rattle.zeus_packet.specs.declared.write.Content.{Content}
use Rattle.zeus_txn.specs.Ops.{mentions, named}
use Rattle.zeus_txn.specs.Run.{run}
use Rattle.zeus_txn.specs.RunLaws.{run-agree}
use Rattle.zeus_txn.specs.declared.ops.Op.{Op}
use Rattle.zeus_model.specs.Tables.{first_of}
use Rattle.zeus_model.specs.State.{Node, copy, value_of}
use Rattle.zeus_model.specs.Local.{hindrance_at, hindrance, unready, Hindrance}
use Rattle.zeus_model.specs.Ownership.{not_valid}
use Rattle.zeus_model.specs.declared.state.Copy.{Copy}
use Rattle.machine_moves.proofs.Causes.{or_else-none}

-- ---- copies

valid_state : (x : ℕ) (s : State) → unready x (not_valid s) ≡ None → s ≡ Valid
unfolding unready not_valid
valid_state x Valid h = refl
valid_state x Invalid h = absurd cc
valid_state x Write h = absurd cc

valid_copy : (x : ℕ) (o : Option Copy) → hindrance_at x o ≡ None → (c : Copy) × (o ≡ Some c) × (c.state ≡ Valid)
unfolding hindrance_at
valid_copy x None h = absurd cc
valid_copy x (Some c) h = (c, refl, valid_state x c.state h)

first_none : (f : ℕ → Option Hindrance) (xs : List ℕ) (x : ℕ) → first_of f xs ≡ None → mentions x xs ≡ true → f x ≡ None
unfolding first_of mentions
first_none f [] x h m = absurd cc
first_none f (y ∷ ys) x h m =
    let parts = or_else-none (f y) (first_of f ys) h in
    elim (or_cases _ _ m) [
      | inl same ↦ rw (eqb-true x y same) parts.0
      | inr later ↦ first_none f ys x parts.1 later
    ]

-- where nothing hinders a read, each object that it names has a valid copy
pub unhindered : (n : Node) (tx : List Op) (x : ℕ) → hindrance n tx ≡ None → mentions x (named tx) ≡ true → (c : Copy) × (copy n x ≡ Some c) × (c.state ≡ Valid)
unfolding hindrance
unhindered n tx x h m = valid_copy x (copy n x) (first_none (λ y. hindrance_at y (copy n y)) (named tx) x h m)

-- a run on valid copies is a run on what they hold
pub read_run : (n : Node) (tx : List Op) (contents : ℕ → Content) → ((x : ℕ) (c : Copy) → mentions x (named tx) ≡ true → copy n x ≡ Some c → c.state ≡ Valid → c.value ≡ (contents x).value) → hindrance n tx ≡ None
    → run (λ x. (contents x).value) tx ≡ run (λ x. value_of (copy n x)) tx
unfolding value_of
read_run n tx contents holds h =
    run-agree (λ x. (contents x).value) (λ x. value_of (copy n x)) tx
    (λ x m.
    let found = unhindered n tx x h m in
    sym (ap (λ (o : Option Copy). value_of o) found.1 ∙ holds x found.0 m found.1 found.2))
