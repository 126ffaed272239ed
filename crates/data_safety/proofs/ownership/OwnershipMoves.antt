-- Moves that change neither copies nor entries nor settled placements: stops, views, letters, gathers, reports, acknowledgements.
use Rattle.std.specs.Prelude.{ℕ, ◌≡◌, ◌<◌, ◌≤◌, true, List, [], ◌∷◌, ◌++◌, length, Option, Some, None, ◌⊎◌}
use Rattle.std.proofs.Common.{arith, refl, ap, ◌∙◌, inl, inr, le_refl}
use Rattle.std.proofs.lemmas.List.{length-append}
use Rattle.zeus_base.specs.declared.config.Config.{Config}
use Rattle.zeus_base.specs.declared.order.Stamp.{Stamp}
use Rattle.zeus_packet.specs.declared.letter.Letter.{Letter}
use Rattle.zeus_packet.specs.declared.place.Proposal.{Proposal}
use Rattle.zeus_packet.specs.declared.write.Content.{Content}
use Rattle.zeus_txn.specs.Ops.{mentions}
use Rattle.zeus_model.specs.In.{In}
use Rattle.zeus_model.specs.Tables.{nth}
use Rattle.zeus_model.specs.State.{Node, copy, entry, owns, slot}
use Rattle.zeus_model.specs.Commit.{no_pending}
use Rattle.zeus_model.specs.declared.state.Copy.{Copy}
use Rattle.machine_moves.specs.SystemState.{SystemState, IsLive, Changes, Sends}
use Rattle.machine_moves.specs.Move.{Move}
use Rattle.machine_moves.proofs.Steady.{move_keep}
use Rattle.ownership_safety.specs.Object.{Object, Acknowledges, Validates, HasGiven, Letter as Said, chain_stamp, place_at}
use Rattle.ownership_safety.specs.Moves as moves
use Rattle.ownership_safety.specs.OwnershipInvariant.{OwnershipInvariant}
use Rattle.ownership_safety.proofs.Chain.{stamp_at-ver}
use Rattle.ownership_safety.proofs.KeepsGathers.{keeps_Notes, keeps_Tells}
use Rattle.ownership_safety.proofs.KeepsSettled.{keeps_Settles, keeps_Decides}
use Rattle.ownership_safety.proofs.KeepsSpeech.{keeps_Drives, keeps_Accepts, keeps_Redrives}
use Rattle.ownership_safety.proofs.KeepsViews.{keeps_NewView, keeps_Stops, keeps_Installs}
use Rattle.invariants.specs.Objects.{object, declared_entry}
use Rattle.invariants.proofs.AboutObjects.{says, sends_object, object-entry}
use Rattle.invariants.proofs.StreamKeeps.{sees_move as stream_sees_move}
use Rattle.invariants.proofs.ObjectKeeps.{sees_move as object_sees_move}
use Rattle.invariants.proofs.ObjectMoves.{entry_after, same_entry_as}
use Rattle.invariants.proofs.ObjectSeen.{Seen, viewed, stopped, installed, settled, driven_by, accepted, redriven, noted_by, decided, told, same_or_not}
use Rattle.data_safety.specs.RunState.{RunState, Witness, place_now}
use Rattle.data_safety.specs.DataInvariant.{DataInvariant, IsClean, left}
use Rattle.data_safety.proofs.Consequences.{numbered}
use Rattle.data_safety.proofs.ownership.StreamsUnchanged.{SameRows, same-rows, same-slots, rows-done, rows-end}
use Rattle.data_safety.proofs.ownership.OwnershipFrame.{IsFramed, IsSameObject, IsRenewed, with_chains, framed-replication, framed-copied}
use Rattle.data_safety.proofs.ownership.OwnershipKept.{framed-entered, framed-booked}

-- ---- objects whose chain stays

-- where no settled stamp is above the chain, what holds of the object holds with the same chain
pub still-ownership : (old new : Object) (chain : List Proposal) → OwnershipInvariant old chain → ((m : ℕ) → (new.entry m).stamp.ver ≤ length chain) → Seen old new chain → OwnershipInvariant new chain
still-ownership old new chain ownership low (viewed set v) = keeps_NewView old new set v chain ownership
still-ownership old new chain ownership low (stopped n s) = keeps_Stops old new n s chain ownership
still-ownership old new chain ownership low (installed n e i) = keeps_Installs old new n e i chain ownership
still-ownership old new chain ownership low (settled n u s) = keeps_Settles old new chain ownership n u s
still-ownership old new chain ownership low (driven_by n p d) = keeps_Drives old new n p d chain ownership
still-ownership old new chain ownership low (accepted n p a) = keeps_Accepts old new n p a chain ownership
still-ownership old new chain ownership low (redriven n p r) = keeps_Redrives old new n p r chain ownership
still-ownership old new chain ownership low (noted_by n p a c t) = keeps_Notes old new n p a c t chain ownership
still-ownership old new chain ownership low (decided n g d) =
    elim (keeps_Decides old new chain ownership n g d) [
      | inl again ↦ again.ownership
      | inr first ↦ absurd (too_high g.proposal first.ownership)
    ]
  where
    too_high : (p : Proposal) → OwnershipInvariant new (chain ++ p ∷ []) → ⊥
    too_high p longer =
        let known = longer.known in
        let ver : (new.entry known.0).stamp.ver ≡ length (chain ++ p ∷ []) =
        ap (λ (t : Stamp). t.ver) known.1 ∙ stamp_at-ver new (chain ++ p ∷ []) longer (length (chain ++ p ∷ [])) (le_refl (length (chain ++ p ∷ []))) in
        omega (arith, ver, low known.0, length-append chain (p ∷ []))
still-ownership old new chain ownership low (told n t) = keeps_Tells old new n t chain ownership

-- the latest placement depends on the chain alone
pub place-same : (y z : RunState) (u v : Witness) (x : ℕ) → z.system.config ≡ y.system.config → v.chain x ≡ u.chain x → place_now z v x ≡ place_now y u x
unfolding object
place-same y z u v x config chain =
    ap (λ (c : List Proposal). Rattle.ownership_safety.specs.Object.chain_place (declared_entry z.system.config x).place c (length c)) chain
    ∙ ap (λ (c : Config). Rattle.ownership_safety.specs.Object.chain_place (declared_entry c x).place (u.chain x) (length (u.chain x))) config

-- ---- a move of one node

-- a move of the node n alone that leaves the book: n becomes the node after, and says only what is allowed
pub record MovesAlone (y z : RunState) (n : ℕ) (after : Node) (allowed : Letter → Type 0) : Type 0 where
  pub move : Move y.system z.system
  pub change : Changes y.system z.system n after allowed
  pub txs : z.txs ≡ y.txs
  pub book : z.book ≡ y.book

-- a node that goes on to own what it owns, of the objects that its pending entries name
pub record KeepsOwned (before after : Node) : Type 0 where
  pub owned : (a i x : ℕ) → i < length (slot before a).pending → mentions x (nth no_pending (slot before a).pending i).named ≡ true → owns before x ≡ true → owns after x ≡ true

-- a node that keeps its number, its copies, its entries for objects, and its streams but for acknowledgements
pub record KeepsData (before after : Node) : Type 0 where
  pub me : after.me ≡ before.me
  pub copies : after.copies ≡ before.copies
  pub entries : after.entries ≡ before.entries
  pub rows : SameRows before after

-- if the node that changes keeps its streams but for acknowledgements, then so does every node
pub changed-rows : (y z : SystemState) (n : ℕ) (after : Node) (allowed : Letter → Type 0) → Changes y z n after allowed → SameRows (y.node n) after → (m : ℕ) → SameRows (y.node m) (z.node m)
changed-rows y z n after allowed c rows m = elim (same_or_not m n) [
  | inl same ↦ rw (same, c.node) rows
  | inr other ↦ rw (c.others m other) (same-rows (y.node m) (y.node m) refl refl)
]

-- if one node changes, then each node that is live after it was live before
pub changed-live : (y z : SystemState) (n : ℕ) (after : Node) (allowed : Letter → Type 0) → Changes y z n after allowed → (m : ℕ) → IsLive z m → IsLive y m
changed-live y z n after allowed c m live = elim (same_or_not m n) [
  | inl same ↦ rw same c.live
  | inr other ↦ let was : IsLive y m = rw (c.others m other) at live in was
]

-- if the node that changes keeps its streams but for acknowledgements, and the book stays, then the move is framed
pub changed-frame : (y z : RunState) (u : Witness) (f : DataInvariant y u) (n : ℕ) (after : Node) (allowed : Letter → Type 0) → MovesAlone y z n after allowed
    → SameRows (y.system.node n) after → IsFramed y z u
changed-frame y z u f n after allowed alone rows = record {
  config = alone.change.config;
  txs = alone.txs;
  book = alone.book;
  live = changed-live y.system z.system n after allowed alone.change;
  slots = λ m. same-slots (y.system.node m) (z.system.node m) (changed-rows y.system z.system n after allowed alone.change rows m);
  dones = rows-done y.system z.system (changed-rows y.system z.system n after allowed alone.change rows);
  ends = rows-end y.system z.system (changed-rows y.system z.system n after allowed alone.change rows);
  seen = λ t. stream_sees_move y.system z.system t (u.passed t) (numbered y u f) (f.replication t) alone.move;
  first = λ m h. rw alone.change.views h;
}

-- no settled stamp is above the chain
pub low-before : (y : RunState) (u : Witness) (f : DataInvariant y u) (n x : ℕ) → IsLive y.system n → x < length y.system.config.objects → (entry (y.system.node n) x).stamp.ver ≤ length (u.chain x)
low-before y u f n x live within =
    let is : (object y.system x).entry n ≡ entry (y.system.node n) x = object-entry y.system x n (f.steady.nodes n live).within in
    rw (← is) ((f.ownership x within).settled n).ver

-- settled stamps after a change of one node
pub changed-low : (y z : RunState) (u : Witness) (f : DataInvariant y u) (n x : ℕ) (after : Node) (allowed : Letter → Type 0) → Changes y.system z.system n after allowed → x < length y.system.config.objects
    → (entry after x).stamp.ver ≤ length (u.chain x) → (m : ℕ) → ((object z.system x).entry m).stamp.ver ≤ length (u.chain x)
changed-low y z u f n x after allowed c within low m =
    elim (same_or_not m n) [
      | inl same ↦ rw (same, entry_after y.system z.system x n after allowed c (numbered y u f)) low
      | inr other ↦ rw (same_entry_as y.system z.system x m c.config (c.others m other)) ((f.ownership x within).settled m).ver
    ]

-- who owns what its pending entries name, where the node that changes does
pub changed-owned : (y z : RunState) (n : ℕ) (after : Node) (allowed : Letter → Type 0) → Changes y.system z.system n after allowed → KeepsOwned (y.system.node n) after
    → (m : ℕ) → KeepsOwned (y.system.node m) (z.system.node m)
changed-owned y z n after allowed c keeps m =
    elim (same_or_not m n) [
      | inl same ↦ rw (same, c.node) keeps
      | inr other ↦ rw (c.others m other) record { owned = λ a i x inside names own. own }
    ]

-- objects whose chain and copies stay
pub changed-copies : (y z : RunState) (u : Witness) (n x : ℕ) (after : Node) (allowed : Letter → Type 0) → Changes y.system z.system n after allowed
    → copy after x ≡ copy (y.system.node n) x → IsSameObject y z u u x
changed-copies y z u n x after allowed c same = record {
  place = place-same y z u u x c.config refl;
  copies = λ m live. elim (same_or_not m n) [
    | inl is ↦ rw (is, c.node) same
    | inr other ↦ rw (c.others m other) refl
  ];
}

-- contents that were given before
pub given-before : (y z : SystemState) (x : ℕ) (allowed : Letter → Type 0) → Sends y z allowed
    → ((l : Letter) (from to e : ℕ) (p : Proposal) (c : Content) → allowed l → In (Acknowledges from to e p (Some c)) (says x l) → ⊥)
    → (n e : ℕ) (p : Proposal) (c : Content) → HasGiven (object z x) n p c e → HasGiven (object y x) n p c e
given-before y z x allowed sends none n e p c given =
    let heard : Said → Type 0 = λ m. (from to e : ℕ) (p : Proposal) (c : Content) → m ≡ Acknowledges from to e p (Some c) → ⊥ in
    let s : moves.Sends (object y x) (object z x) heard =
    sends_object y z x allowed heard sends (λ l m a i from to e p c is. none l from to e p c a (rw is at i)) in
    elim (s.only (Acknowledges n given.0 e p (Some c)) given.1) [
      | inl before ↦ (given.0, before)
      | inr now ↦ absurd (now n given.0 e p c refl)
    ]

-- everything that holds, put together
pub framed-invariant : (y z : RunState) (u : Witness) (chain : ℕ → List Proposal) (f : DataInvariant y u) (s : IsFramed y z u) → ((n : ℕ) → SameRows (y.system.node n) (z.system.node n)) → Move y.system z.system
    → ((x : ℕ) → x < length y.system.config.objects → IsSameObject y z u (with_chains u chain) x ⊎ IsRenewed y z u (with_chains u chain) x)
    → ((x : ℕ) → x < length y.system.config.objects → OwnershipInvariant (object z.system x) (chain x))
    → ((n : ℕ) → KeepsOwned (y.system.node n) (z.system.node n))
    → ((n x e : ℕ) (p : Proposal) (c : Content) → x < length y.system.config.objects → HasGiven (object z.system x) n p c e
    → p.base.ver ≡ length (chain x) → IsClean y u x × (c ≡ left y x))
    → DataInvariant z (with_chains u chain)
framed-invariant y z u chain f s rows move objects ownership keeps given = record {
  limits = rw s.config f.limits;
  steady = move_keep y.system z.system move f.steady;
  ownership = λ x within. ownership x (rw s.config at within);
  replication = framed-replication y z u chain f s;
  copied = framed-copied y z u chain f s rows objects;
  entered = framed-entered y z u chain f s objects (λ n a i x live inside names own. (keeps n).owned a i x inside names own) given;
  booked = framed-booked y z u chain f s;
}

-- a node that keeps its copies, its entries for objects, and its streams but for acknowledgements, and gives no content
pub quiet-move : (y z : RunState) (u : Witness) (f : DataInvariant y u) (n : ℕ) (after : Node) (allowed : Letter → Type 0) → MovesAlone y z n after allowed → KeepsData (y.system.node n) after
    → ((x : ℕ) (l : Letter) (from to e : ℕ) (p : Proposal) (k : Content) → allowed l → In (Acknowledges from to e p (Some k)) (says x l) → ⊥)
    → DataInvariant z u
unfolding owns
quiet-move y z u f n after allowed alone keeps none =
    framed-invariant y z u u.chain f (changed-frame y z u f n after allowed alone keeps.rows) (changed-rows y.system z.system n after allowed alone.change keeps.rows) alone.move
    (λ x within. inl (changed-copies y z u n x after allowed alone.change (ap (λ (k : List (Option Copy)). nth None k x) keeps.copies)))
    (λ x within. still-ownership (object y.system x) (object z.system x) (u.chain x) (f.ownership x within)
    (changed-low y z u f n x after allowed alone.change within (low x within))
    (object_sees_move y.system z.system x (u.chain x) (numbered y u f) (f.ownership x within) alone.move))
    (changed-owned y z n after allowed alone.change record { owned = λ a i x inside names own. rw (keeps.entries, keeps.me) own })
    (λ m x e p k within given last. f.entered.given m x e p k within (given-before y.system z.system x allowed alone.change.sends (none x) m e p k given) last)
  where
    low : (x : ℕ) → x < length y.system.config.objects → (entry after x).stamp.ver ≤ length (u.chain x)
    low x within = rw keeps.entries (low-before y u f n x alone.change.live within)
