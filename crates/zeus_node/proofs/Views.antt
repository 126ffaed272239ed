-- Views and stops, case by case.
use Rattle.std.specs.Prelude.{nat_lt, if◌then◌else◌}
use Rattle.std.proofs.Common.{Bool, ◌≡◌, ◌<◌, ◌≤◌, true, false, length, refl}
use Rattle.std.proofs.lemmas.Bool.{le-ltb, lt-ltb}
use Rattle.zeus_packet.specs.declared.place.View.{View}
use Rattle.zeus_model.specs.declared.answer.Install.TheVariants.{Installed, Stopped, Old}
use Rattle.zeus_model.specs.declared.answer.Stop.TheVariants.{Done, Stopped as Halted}
use Rattle.zeus_model.specs.Act.{did_then, just}
use Rattle.zeus_model.specs.Commit.{finish}
use Rattle.zeus_model.specs.Membership.{install, stop}
use Rattle.zeus_model.specs.State.{Node}
use Rattle.node_state.specs.Changes.{in_view, stopped}
use Rattle.node_state.specs.declared.effect.Effect.{Effect}
use Rattle.node_state.specs.Done.{IsActed, IsDone}
use Rattle.node_state.specs.EffectLaws.{adds_nothing, done_then}

second : {A : Type 0} (a b : Bool) (x y z : A) → a ≡ false → b ≡ true → (if a then x else (if b then y else z)) ≡ y
second a b x y z e f = rw (e, f) refl

module _ (n : Node) (v : View) where
  pub install-stopped : n.stopped ≡ true → install n v ≡ just n Stopped
  unfolding install
  install-stopped s = rw s refl

  pub install-old : n.stopped ≡ false → v.epoch ≤ n.epoch → install n v ≡ just n (Old n.epoch)
  unfolding install
  install-old s e = rw (s, le-ltb n.epoch v.epoch e) refl

  pub install-later : n.stopped ≡ false → n.epoch < v.epoch → install n v ≡ did_then (just (in_view n v) Installed) finish
  unfolding install
  install-later s e =
      second n.stopped (nat_lt n.epoch v.epoch) (just n Stopped) (did_then (just (in_view n v) Installed) finish) (just n (Old n.epoch)) s (lt-ltb n.epoch v.epoch e)

  -- a later view is taken, and then the node finishes
  pub installed : (m k : Node) (b c : Effect) → n.stopped ≡ false → n.epoch < v.epoch → m ≡ in_view n v → length b.sent ≤ 64 → IsActed (finish m) k b c → IsDone (install n v) Installed k b c
  installed m k b c s e becomes room f =
      rw (install-later s e)
      (done_then (just (in_view n v) Installed) finish Installed m k b b c (record { says = refl; becomes = becomes; adds = adds_nothing b room }) f)

-- if a node has stopped, then a stop is answered so and changes nothing
pub stop-stopped : (n : Node) → n.stopped ≡ true → stop n ≡ just n Halted
unfolding stop
stop-stopped n s = rw s refl

-- if a node is live, then a stop stops it and is answered `Done`
pub stop-running : (n : Node) → n.stopped ≡ false → stop n ≡ just (stopped n) Done
unfolding stop
stop-running n s = rw s refl
