-- In a world with the data invariant each object has one latest placement, and copies are just where it places them.
use Rattle.std.specs.Prelude.{ℕ, ◌≡◌, ◌<◌, ◌≤◌, true, false, length, Some, is_some}
use Rattle.std.proofs.Common.{arith, sym, ap, ◌∙◌, inl, inr, subst}
use Rattle.zeus_base.specs.Nodes.{has}
use Rattle.zeus_base.specs.Order.{is_below}
use Rattle.zeus_base.specs.declared.order.Stamp.{Stamp}
use Rattle.zeus_model.specs.declared.state.Copy.{Copy}
use Rattle.zeus_model.specs.declared.state.Entry.{Entry}
use Rattle.zeus_model.specs.Sound.{IsLive, IsUpToDate, latest_entry, latest_place, left as left_of}
use Rattle.zeus_model.specs.State.{Node, copy, entry}
use Rattle.zeus_model.specs.World.{World, node}
use Rattle.machine_moves.specs.SystemState.{system}
use Rattle.ownership_safety.specs.Object.{chain_stamp, place_at}
use Rattle.ownership_safety.specs.OwnershipInvariant.{IsDecided}
use Rattle.invariants.specs.Objects.{object}
use Rattle.data_safety.specs.RunState.{Witness, run_state, place_now}
use Rattle.data_safety.specs.DataInvariant.{DataInvariant}
use Rattle.soundness.specs.Placements.{AgreeOn, IsLatest, IsPlaced}
use Rattle.soundness.proofs.DataSound.{latest_is, latest-newest, left-same, object_node, system_config, system_node, system_objects, up_to_date}

module _ (w : World) (u : Witness) (f : DataInvariant (run_state w) u) (count : length w.nodes ≡ w.config.nodes) where
  -- what a node has settled is a link of the chain
  settled : (x n : ℕ) → x < length w.config.objects → n < w.config.nodes → IsDecided (object (system w) x) (u.chain x) (entry (node w n) x).stamp (entry (node w n) x).place
  settled x n within inside =
      subst (λ (e : Entry). IsDecided (object (system w) x) (u.chain x) e.stamp e.place) (object_node w x n inside)
      ((f.ownership x (system_objects w x within)).settled n)

  one_placement : (x a b : ℕ) → x < length w.config.objects → a < w.config.nodes → b < w.config.nodes → (entry (node w a) x).stamp.ver ≡ (entry (node w b) x).stamp.ver
      → AgreeOn w x a b
  one_placement x a b within first second same =
      let one = settled x a within first in
      let other = settled x b within second in
      record {
        stamp = one.stamp ∙ ap (λ (v : ℕ). chain_stamp (u.chain x) v) same ∙ sym other.stamp;
        place = one.place ∙ ap (λ (v : ℕ). place_at (object (system w) x) (u.chain x) v) same ∙ sym other.place;
      }

  greatest : (x n : ℕ) → n < w.config.nodes → is_below (latest_entry w x).stamp (entry (node w n) x).stamp ≡ false
  greatest x n inside = (latest-newest w x).each n (omega (arith, count))

  -- the latest entry is that of a node
  latest_at : (x : ℕ) → (n : ℕ) × (n < w.config.nodes) × (entry (node w n) x ≡ latest_entry w x)
  latest_at x =
      let some : 1 ≤ w.config.nodes = rw (system_config w) at f.limits.nodes.0 in
      elim (latest-newest w x).found [
        | inl first ↦ (0, omega arith, sym first)
        | inr later ↦ (later.0, let h = later.1 in omega (arith, count), sym later.2)
      ]

  latest : (x : ℕ) → x < length w.config.objects → IsLatest w x
  latest x within = record {
    greatest = λ n inside. greatest x n inside;
    settled = latest_at x;
    one = λ n inside same.
        let at = latest_at x in
        let agree = one_placement x n at.0 within inside at.1 (ap (λ (s : Stamp). s.ver) same ∙ ap (λ (e : Entry). e.stamp.ver) (sym at.2)) in
        agree.place ∙ ap (λ (e : Entry). e.place) at.2;
  }

  -- the live nodes that have a copy are those of the latest placement
  copied : (x n : ℕ) → x < length w.config.objects → IsLive w n
      → (is_some (copy (node w n) x) ≡ true → has n (latest_place w x).replicas ≡ true) × (has n (latest_place w x).replicas ≡ true → is_some (copy (node w n) x) ≡ true)
  copied x n within live =
      let both = f.copied.placed n x (system_objects w x within) (rw (system_node w n) live) in
      let last : latest_place w x ≡ place_now (run_state w) u x = latest_is w u x f count within in
      let here : (system w).node n ≡ node w n = system_node w n in
      (λ some. rw last (both.0 (rw here some)), λ there. rw here at (both.1 (rw last at there)))

  live_copy : (x n : ℕ) (c : Copy) → x < length w.config.objects → IsLive w n → copy (node w n) x ≡ Some c → IsUpToDate c (left_of w x)
  live_copy x n c within live has_it =
      let lives : ((system w).node n).stopped ≡ false = rw (system_node w n) live in
      up_to_date w u n x c
      (f.copied.content n x c (system_objects w x within) lives (ap (λ (k : Node). copy k x) (system_node w n) ∙ has_it)) (left-same w x)

  pub invariant-placed : IsPlaced w
  invariant-placed = record {
    one_placement = one_placement;
    latest = latest;
    copies_where_placed = λ x n within live. copied x n within live;
    live_copies = live_copy;
  }
