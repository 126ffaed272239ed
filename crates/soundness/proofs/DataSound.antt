-- A world with the data invariant is sound.
use Rattle.std.specs.Prelude.{ℕ, zero, suc, ◌≡◌, ◌<◌, ◌≤◌, nat_lt, true, false, List, [], ◌∷◌, length, Option, Some, None, is_some, ◌⊎◌}
use Rattle.std.proofs.Common.{arith, refl, sym, ap, inl, inr, ◌∙◌, subst}
use Rattle.std.proofs.lemmas.Bool.{cases_Bool, cases_lt}
use Rattle.std.proofs.lemmas.Bool.Decides.{nat_tests}
use Rattle.zeus_base.specs.Nodes.{has}
use Rattle.zeus_base.specs.Order.{is_below}
use Rattle.zeus_base.specs.OrderLaws.{is_below-irrefl, not_below-trans, is_below-asym}
use Rattle.zeus_base.specs.declared.order.Stamp.{Stamp}
use Rattle.zeus_packet.specs.declared.place.Proposal.{Proposal}
use Rattle.zeus_packet.specs.declared.write.Content.{Content}
use Rattle.zeus_txn.specs.declared.ops.Op.{Op}
use Rattle.zeus_model.specs.Tables.{nth}
use Rattle.zeus_model.specs.Book.{Point, record_of}
use Rattle.zeus_model.specs.Sound.{Sound, IsOneHistory, IsUpToDate, history_txs, newer, newest, latest_entry, latest_place, left as left_of}
use Rattle.zeus_model.specs.State.{Node, entry, copy}
use Rattle.zeus_model.specs.World.{World, node, no_node, start_entry}
use Rattle.zeus_model.specs.declared.state.Copy.{Copy}
use Rattle.zeus_model.specs.declared.state.Entry.{Entry}
use Rattle.machine_moves.specs.SystemState.{system, IsNumbered}
use Rattle.machine_moves.proofs.Steady.{IsNumbered-steady}
use Rattle.ownership_safety.specs.Object.{Object, chain_stamp, place_at, first_stamp}
use Rattle.ownership_safety.specs.OwnershipInvariant.{OwnershipInvariant, IsDecided}
use Rattle.ownership_safety.proofs.Basics.{not_below-ver}
use Rattle.ownership_safety.proofs.Chain.{stamp_at-ver}
use Rattle.ownership_safety.proofs.Owner.{one_owner}
use Rattle.invariants.specs.Objects.{object}
use Rattle.invariants.proofs.AboutObjects.{object-entry}
use Rattle.data_safety.specs.RunState.{Witness, run_state, txs_of, place_now}
use Rattle.data_safety.specs.DataInvariant.{DataInvariant, IsNewer, left, content_of}
use Rattle.soundness.proofs.Owners.{live_owner}

-- the system of a world has the world's configuration
pub system_config : (w : World) → (system w).config ≡ w.config
unfolding system
system_config w = refl

-- if an object is declared in a world, then it is one of its system
pub system_objects : (w : World) (x : ℕ) → x < length w.config.objects → x < length (system w).config.objects
unfolding system
system_objects w x h = h

-- the system of a world has the world's nodes
pub system_node : (w : World) (n : ℕ) → (system w).node n ≡ node w n
unfolding system
system_node w n = refl

-- ---- the history

txs-same : (w : World) (ps : List Point) → history_txs w ps ≡ txs_of (run_state w) ps
unfolding history_txs txs_of
txs-same w [] = refl
txs-same w (p ∷ ps) = ap (λ (ts : List (List Op)). (nth Rattle.zeus_model.specs.World.no_tx w.txs p.id).tx ∷ ts) (txs-same w ps)

-- if there is something, then it has a value
pub some_value : {A : Type 0} (o : Option A) → is_some o ≡ true → (a : A) × (o ≡ Some a)
some_value None h = cc
some_value (Some a) h = (a, refl)

-- if what is found is two values, then these are equal
pub same_some : (o : Option ℕ) (a b : ℕ) → o ≡ Some a → o ≡ Some b → a ≡ b
same_some o a b e f = cc

is_some_of : {A : Type 0} (o : Option A) (a : A) → o ≡ Some a → is_some o ≡ true
is_some_of o a e = rw e refl

one_history : (w : World) (u : Witness) → DataInvariant (run_state w) u → IsOneHistory w
one_history w u f = record {
  placed = λ id there.
      let pointed : is_some (record_of w.book id).point ≡ true = (f.booked.in_history id).1 there in
      let started : is_some (record_of w.book id).begun ≡ true = f.booked.begun id (inr (inl pointed)) in
      let step : (s : ℕ) × ((record_of w.book id).point ≡ Some s) = some_value (record_of w.book id).point pointed in
      let begin : (s : ℕ) × ((record_of w.book id).begun ≡ Some s) = some_value (record_of w.book id).begun started in
      record {
        once = let most = f.booked.once id in omega arith;
        begun = (step.0, begin.0, step.1, begin.1, (f.booked.point_after id begin.0 step.0 begin.1 step.1).0);
        acked = λ s ack point acked. let same : s ≡ ack = same_some (record_of w.book id).point s ack point (f.booked.acked_at id ack acked) in omega arith;
      };
  complete = λ id acked.
      let ack : (s : ℕ) × ((record_of w.book id).acked ≡ Some s) = some_value (record_of w.book id).acked acked in
      (f.booked.in_history id).0 (is_some_of (record_of w.book id).point ack.0 (f.booked.acked_at id ack.0 ack.1));
}

-- ---- the latest placement

-- the newest of entries is one of them, and none is above it
pub record IsNewest (x : ℕ) (e : Entry) (ns : List Node) (top : Entry) : Type 0 where
  pub first : is_below top.stamp e.stamp ≡ false
  pub each : (i : ℕ) → i < length ns → is_below top.stamp (entry (nth no_node ns i) x).stamp ≡ false
  pub found : (top ≡ e) ⊎ ((i : ℕ) × (i < length ns) × (top ≡ entry (nth no_node ns i) x))

newer-first : (a b : Entry) → is_below (newer a b).stamp a.stamp ≡ false
unfolding newer
newer-first a b = elim (cases_Bool (is_below a.stamp b.stamp)) [
  | inl above ↦ rw above (is_below-asym a.stamp b.stamp above)
  | inr not_above ↦ rw not_above (is_below-irrefl a.stamp)
]

newer-second : (a b : Entry) → is_below (newer a b).stamp b.stamp ≡ false
unfolding newer
newer-second a b = elim (cases_Bool (is_below a.stamp b.stamp)) [
  | inl above ↦ rw above (is_below-irrefl b.stamp)
  | inr not_above ↦ rw not_above not_above
]

newer-either : (a b : Entry) → (newer a b ≡ a) ⊎ (newer a b ≡ b)
unfolding newer
newer-either a b = elim (cases_Bool (is_below a.stamp b.stamp)) [ inl above ↦ inr (rw above refl) | inr not_above ↦ inl (rw not_above refl) ]

newest-each : (x : ℕ) (e : Entry) (n : Node) (ns : List Node) (top : Entry) → IsNewest x (newer e (entry n x)) ns top
    → (i : ℕ) → i < length (n ∷ ns) → is_below top.stamp (entry (nth no_node (n ∷ ns) i) x).stamp ≡ false
unfolding nth
newest-each x e n ns top more zero h = not_below-trans (entry n x).stamp (newer e (entry n x)).stamp top.stamp (newer-second e (entry n x)) more.first
newest-each x e n ns top more (suc i) h = more.each i (omega arith)

-- the newest of entries is one of them, and none is above it
pub newest-is : (x : ℕ) (e : Entry) (ns : List Node) → IsNewest x e ns (newest x e ns)
unfolding newest nth
newest-is x e [] = record { first = is_below-irrefl e.stamp; each = λ i h. absurd (omega arith); found = inl refl }
newest-is x e (n ∷ ns) =
    let more : IsNewest x (newer e (entry n x)) ns (newest x (newer e (entry n x)) ns) = newest-is x (newer e (entry n x)) ns in
    record {
      first = not_below-trans e.stamp (newer e (entry n x)).stamp (newest x (newer e (entry n x)) ns).stamp (newer-first e (entry n x)) more.first;
      each = λ i h. newest-each x e n ns (newest x (newer e (entry n x)) ns) more i h;
      found = elim more.found [
        | inl top ↦ elim (newer-either e (entry n x)) [
          | inl first ↦ inl (top ∙ first)
          | inr second ↦ inr (0, omega arith, top ∙ second)
        ]
        | inr later ↦ inr (suc later.0, let h = later.1 in omega arith, later.2)
      ];
    }

-- the latest entry of an object is the newest one of all nodes
pub latest-newest : (w : World) (x : ℕ) → IsNewest x (entry (node w 0) x) w.nodes (latest_entry w x)
unfolding latest_entry
latest-newest w x = newest-is x (entry (node w 0) x) w.nodes

-- a node's entry of an object in the system is that in the world
pub object_node : (w : World) (x i : ℕ) → i < w.config.nodes → (object (system w) x).entry i ≡ entry (node w i) x
object_node w x i h = object-entry (system w) x i (rw (system_config w) h) ∙ ap (λ (n : Node). entry n x) (system_node w i)

-- past the last node stands the declared placement
outside_node : (w : World) (x i : ℕ) → w.config.nodes ≤ i → ((object (system w) x).entry i).stamp ≡ first_stamp
unfolding object system start_entry
outside_node w x i h = let not_less : nat_lt i w.config.nodes ≡ false = grind (arith, nat_tests) in rw not_less refl

-- the newest stamp is that of the last link of the chain
reach : (w : World) (x : ℕ) (o : Object) (chain : List Proposal) (top : Entry) → OwnershipInvariant (object (system w) x) chain → IsNewest x (entry (node w 0) x) w.nodes top
    → length w.nodes ≡ w.config.nodes → length chain ≤ top.stamp.ver
reach w x o chain top ownership is count =
    let m : ℕ = ownership.known.0 in
    let last : (chain_stamp chain (length chain)).ver ≡ length chain = stamp_at-ver (object (system w) x) chain ownership (length chain) (omega arith) in
    elim (cases_lt m w.config.nodes) [
      | inl inside ↦
          let below_top : is_below top.stamp (entry (node w m) x).stamp ≡ false = is.each m (omega (arith, count)) in
          let there : (entry (node w m) x).stamp ≡ chain_stamp chain (length chain) = ap (λ (e : Entry). e.stamp) (sym (object_node w x m inside)) ∙ ownership.known.1 in
          let high : (entry (node w m) x).stamp.ver ≤ top.stamp.ver = not_below-ver top.stamp (entry (node w m) x).stamp below_top in
          let ver : (entry (node w m) x).stamp.ver ≡ length chain = ap (λ (t : Stamp). t.ver) there ∙ last in
          omega arith
      | inr past ↦
          let first : first_stamp ≡ chain_stamp chain (length chain) = sym (outside_node w x m past) ∙ ownership.known.1 in
          let ver : 0 ≡ length chain = ap (λ (t : Stamp). t.ver) first ∙ last in
          omega arith
    ]

-- the latest placement of a world is the last of the object's chain
pub latest_is : (w : World) (u : Witness) (x : ℕ) → DataInvariant (run_state w) u → length w.nodes ≡ w.config.nodes → x < length w.config.objects
    → latest_place w x ≡ place_now (run_state w) u x
latest_is w u x f count within =
    let o : Object = object (system w) x in
    let chain : List Proposal = u.chain x in
    let ownership : OwnershipInvariant o chain = f.ownership x (system_objects w x within) in
    let nodes : 1 ≤ w.config.nodes = rw (system_config w) at f.limits.nodes.0 in
    let top : Entry = latest_entry w x in
    let is : IsNewest x (entry (node w 0) x) w.nodes top = latest-newest w x in
    let from : (i : ℕ) × (i < w.config.nodes) × (top ≡ entry (node w i) x) =
    elim is.found [
      | inl first ↦ (0, omega arith, first)
      | inr later ↦ (later.0, let h = later.1 in omega (arith, count), later.2)
    ] in
    let seen : o.entry from.0 ≡ top = object_node w x from.0 from.1 ∙ sym from.2 in
    let decided : IsDecided o chain top.stamp top.place = subst (λ (e : Entry). IsDecided o chain e.stamp e.place) seen (ownership.settled from.0) in
    let reached : length chain ≤ top.stamp.ver =
    reach w x o chain top ownership is count in
    let last : top.stamp.ver ≡ length chain = let low = decided.ver in omega arith in
    decided.place ∙ ap (λ (v : ℕ). place_at o chain v) last

-- ---- copies

-- if a copy is what the history leaves, or a newer write that has not passed, then it is up to date
pub up_to_date : (w : World) (u : Witness) (n x : ℕ) (c : Copy) → (content_of c ≡ left (run_state w) x) ⊎ IsNewer (run_state w) u n x c → left (run_state w) x ≡ record { ver = (left_of w x).ver; value = (left_of w x).value }
    → IsUpToDate c (left_of w x)
up_to_date w u n x c (inl same) is = record {
  not_older = let v : c.ver ≡ (left_of w x).ver = ap (λ (k : Content). k.ver) (same ∙ is) in omega arith;
  valid = λ h. (ap (λ (k : Content). k.ver) (same ∙ is), ap (λ (k : Content). k.value) (same ∙ is));
  same = λ h. ap (λ (k : Content). k.value) (same ∙ is);
}
up_to_date w u n x c (inr newer) is = record {
  not_older = let v : (left (run_state w) x).ver ≡ (left_of w x).ver = ap (λ (k : Content). k.ver) is in let a = newer.above in omega arith;
  valid = λ h. absurd (newer.not_valid h);
  same = λ h. let v : (left (run_state w) x).ver ≡ (left_of w x).ver = ap (λ (k : Content). k.ver) is in let a = newer.above in absurd (omega arith);
}

-- what the history leaves of an object is the same in the run's state and in the world
pub left-same : (w : World) (x : ℕ) → left (run_state w) x ≡ record { ver = (left_of w x).ver; value = (left_of w x).value }
unfolding left system
left-same w x = rw (txs-same w w.book.points) refl

-- a world with the data invariant is sound
pub invariant-sound : (w : World) (u : Witness) → DataInvariant (run_state w) u → length w.nodes ≡ w.config.nodes → Sound w
unfolding system
invariant-sound w u f count = record {
  one_owner = λ x a b within first second.
      let numbered : IsNumbered (system w) = IsNumbered-steady (system w) f.steady in
      one_owner (object (system w) x) (u.chain x) (f.ownership x (system_objects w x within)) a b (live_owner w x a numbered first) (live_owner w x b numbered second);
  one_history = one_history w u f;
  serial = rw (txs-same w w.book.points) f.booked.replies;
  copies = λ x n within live there.
      let placed : has n (place_now (run_state w) u x).replicas ≡ true = rw (← latest_is w u x f count within) there in
      let lives : ((system w).node n).stopped ≡ false = rw (system_node w n) live in
      let some : is_some (copy (node w n) x) ≡ true = subst (λ (k : Node). is_some (copy k x) ≡ true) (system_node w n) ((f.copied.placed n x (system_objects w x within) lives).1 placed) in
      let found : (c : Copy) × (copy (node w n) x ≡ Some c) = some_value (copy (node w n) x) some in
      (found.0, found.1, up_to_date w u n x found.0 (f.copied.content n x found.0 (system_objects w x within) lives (ap (λ (k : Node). copy k x) (system_node w n) ∙ found.1)) (left-same w x));
}
