-- What a node has stands within the slots that there are, and a proposal that it holds is above its base.
use Rattle.std.specs.Prelude.{ℕ, zero, suc, ◌≡◌, ◌≢◌, ◌+◌, ◌-◌, ◌<◌, ◌≤◌, true, nat_lt, ◌==◌, List, [], ◌∷◌, ◌++◌, length, take, drop, Option, Some, None, ◌⊎◌}
use Rattle.std.proofs.Common.{arith, refl, ap, ◌∙◌, inl, inr}
use Rattle.std.proofs.lemmas.Bool.{cases_eq, cond_both}
use Rattle.zeus_base.specs.Order.{is_below}
use Rattle.zeus_base.specs.declared.order.Stamp.{Stamp}
use Rattle.zeus_base.specs.declared.order.Stream.{Stream}
use Rattle.zeus_base.specs.TableLaws.{nth-put_same}
use Rattle.zeus_packet.specs.declared.letter.RInv.{RInv as Invalidation}
use Rattle.zeus_packet.specs.declared.place.Place.{Place}
use Rattle.zeus_packet.specs.declared.place.Proposal.{Proposal}
use Rattle.zeus_packet.specs.declared.write.Content.{Content}
use Rattle.zeus_packet.specs.declared.write.Write.{Write}
use Rattle.zeus_txn.specs.declared.reply.Ran.{Ran}
use Rattle.zeus_model.specs.declared.state.Current.{Current}
use Rattle.zeus_model.specs.Local.{committed}
use Rattle.zeus_model.specs.Tables.{nth, put, where_true}
use Rattle.zeus_model.specs.declared.state.Copy.{Copy}
use Rattle.zeus_model.specs.declared.state.Entry.{Entry}
use Rattle.zeus_model.specs.declared.state.Gather.{Gather}
use Rattle.zeus_model.specs.State.{Node, Slot, StreamLog, no_slot, no_log, no_entry, entry, slot, log, with_slot, with_log, with_entry, with_copies, with_copy, with_gather}
use Rattle.zeus_model.specs.Commit.{raise, store, pass_own, pass_kept, after_passing}
use Rattle.zeus_model.specs.Ownership.{settle, settled_entry, proposal_above, gather_above, holding, bring, brought}
use Rattle.machine_moves.proofs.Lists.{nth-put_other, length-put}

-- ---- a part of a node after it was set

-- the slot that was written reads what was written
pub slot-with_slot_same : (n : Node) (i : ℕ) (l : Slot) → slot (with_slot n i l) i ≡ l
slot-with_slot_same n i l = nth-put_same no_slot n.slots i l

-- each other slot than the one written reads as before
pub slot-with_slot_other : (n : Node) (i j : ℕ) (l : Slot) → j ≢ i → slot (with_slot n i l) j ≡ slot n j
slot-with_slot_other n i j l ne = nth-put_other no_slot n.slots i j l ne

-- the object whose entry was written has that entry
pub entry-with_entry_same : (n : Node) (x : ℕ) (e : Entry) → entry (with_entry n x e) x ≡ e
entry-with_entry_same n x e = nth-put_same no_entry n.entries x e

-- each other object has its entry as before
pub entry-with_entry_other : (n : Node) (x y : ℕ) (e : Entry) → y ≢ x → entry (with_entry n x e) y ≡ entry n y
entry-with_entry_other n x y e ne = nth-put_other no_entry n.entries x y e ne

row-with_log : (n : Node) (t : Stream) (l : StreamLog) → nth [] (with_log n t l).logs t.node ≡ put no_log (nth [] n.logs t.node) t.slot l
row-with_log n t l = nth-put_same [] n.logs t.node (put no_log (nth [] n.logs t.node) t.slot l)

-- the stream whose log was written has that log
pub log-with_log_same : (n : Node) (t : Stream) (l : StreamLog) → log (with_log n t l) t ≡ l
log-with_log_same n t l = rw (row-with_log n t l) (nth-put_same no_log (nth [] n.logs t.node) t.slot l)

log-with_log_node : (n : Node) (t u : Stream) (l : StreamLog) → u.node ≢ t.node → log (with_log n t l) u ≡ log n u
log-with_log_node n t u l ne =
    ap (λ (row : List StreamLog). nth no_log row u.slot) (nth-put_other [] n.logs t.node u.node (put no_log (nth [] n.logs t.node) t.slot l) ne)

log-with_log_slot : (n : Node) (t : Stream) (k : ℕ) (l : StreamLog) → k ≢ t.slot → log (with_log n t l) record { node = t.node; slot = k } ≡ log n record { node = t.node; slot = k }
log-with_log_slot n t k l ne = rw (row-with_log n t l) (nth-put_other no_log (nth [] n.logs t.node) t.slot k l ne)

-- each other stream, of another node or another slot, has its log as before
pub log-with_log_other : (n : Node) (t u : Stream) (l : StreamLog) → (u.node ≢ t.node) ⊎ (u.slot ≢ t.slot) → log (with_log n t l) u ≡ log n u
log-with_log_other n t u l (inl ne) = log-with_log_node n t u l ne
log-with_log_other n t u l (inr ne) =
    elim (cases_eq u.node t.node) [
      | inl same ↦ let at : u ≡ record { node = t.node; slot = u.slot } = λ i. record { node = same i; slot = u.slot } in rw at (log-with_log_slot n t u.slot l ne)
      | inr other ↦ log-with_log_node n t u l other
    ]

-- two streams are one, or they differ in the node or in the slot
pub stream_cases : (t u : Stream) → (u ≡ t) ⊎ ((u.node ≢ t.node) ⊎ (u.slot ≢ t.slot))
stream_cases t u =
    elim (cases_eq u.node t.node) [
      | inl same ↦ elim (cases_eq u.slot t.slot) [
        | inl both ↦ inl (λ i. record { node = same i; slot = both i })
        | inr other ↦ inr (inr other)
      ]
      | inr other ↦ inr (inl other)
    ]

-- ---- what a node has

-- no pending and no stored entry stands past the slots, and each proposal that is held is above its base
pub record IsWithin (bound : ℕ) (n : Node) : Type 0 where
  pub slots : bound ≤ length n.slots
  pub pending : (i : ℕ) → bound ≤ i → (slot n i).pending ≡ []
  pub kept : (t : Stream) → bound ≤ t.slot → (log n t).kept ≡ []
  pub held : (x : ℕ) (p : Proposal) → (entry n x).proposal ≡ Some p → is_below p.base p.stamp ≡ true

-- within stays when a slot is written that has nothing pending if it is past the slots
pub IsWithin-with_slot : (bound : ℕ) (n : Node) (i : ℕ) (l : Slot) → (bound ≤ i → l.pending ≡ []) → IsWithin bound n → IsWithin bound (with_slot n i l)
IsWithin-with_slot bound n i l h w =
    record {
      slots = omega (arith, length-put no_slot n.slots i l, w.slots);
      pending = λ j le. elim (cases_eq j i) [
        | inl same ↦ rw (same, slot-with_slot_same n i l) (h (omega (arith, le, same)))
        | inr other ↦ rw (slot-with_slot_other n i j l other) (w.pending j le)
      ];
      kept = w.kept;
      held = w.held;
    }

-- within stays when a log is written that has no entries if its slot is past the slots
pub IsWithin-with_log : (bound : ℕ) (n : Node) (t : Stream) (l : StreamLog) → (bound ≤ t.slot → l.kept ≡ []) → IsWithin bound n → IsWithin bound (with_log n t l)
IsWithin-with_log bound n t l h w =
    record {
      slots = w.slots;
      pending = w.pending;
      kept = λ u le. elim (stream_cases t u) [
        | inl same ↦ rw (same, log-with_log_same n t l) (h (rw same at le))
        | inr other ↦ rw (log-with_log_other n t u l other) (w.kept u le)
      ];
      held = w.held;
    }

-- within stays when an entry is written whose proposal, if any, is above its base
pub IsWithin-with_entry : (bound : ℕ) (n : Node) (x : ℕ) (e : Entry) → ((p : Proposal) → e.proposal ≡ Some p → is_below p.base p.stamp ≡ true) → IsWithin bound n → IsWithin bound (with_entry n x e)
IsWithin-with_entry bound n x e h w =
    record {
      slots = w.slots;
      pending = w.pending;
      kept = w.kept;
      held = λ y p is. elim (cases_eq y x) [
        | inl same ↦ h p (rw (same, entry-with_entry_same n x e) at is)
        | inr other ↦ w.held y p (rw (entry-with_entry_other n x y e other) at is)
      ];
    }

-- within stays when the copies are others
pub IsWithin-with_copies : (bound : ℕ) (n : Node) (copies : List (Option Copy)) → IsWithin bound n → IsWithin bound (with_copies n copies)
IsWithin-with_copies bound n copies w = record { slots = w.slots; pending = w.pending; kept = w.kept; held = w.held }

-- within stays when a gather is written
pub IsWithin-with_gather : (bound : ℕ) (n : Node) (x : ℕ) (g : Option Gather) → IsWithin bound n → IsWithin bound (with_gather n x g)
IsWithin-with_gather bound n x g w = record { slots = w.slots; pending = w.pending; kept = w.kept; held = w.held }

-- ---- the changes that moves make

proposal_above-held : (stamp : Stamp) (q : Option Proposal) (p : Proposal) → proposal_above stamp q ≡ Some p → q ≡ Some p
unfolding proposal_above where_true
proposal_above-held stamp None p h = h
proposal_above-held stamp (Some q) p h = grind arith

-- within stays when a stamp and a placement are settled
pub IsWithin-settle : (bound : ℕ) (n : Node) (x : ℕ) (stamp : Stamp) (place : Place) → IsWithin bound n → IsWithin bound (settle n x stamp place)
unfolding settle
IsWithin-settle bound n x stamp place w =
    let e = settled_entry (entry n x) stamp place in
    let after = with_gather (with_entry n x e) x (gather_above stamp (nth None n.gathers x)) in
    let above : IsWithin bound (with_entry n x e) = IsWithin-with_entry bound n x e (λ p is. w.held x p (proposal_above-held stamp (entry n x).proposal p is)) w in
    cond_both (is_below (entry n x).stamp stamp) after n (λ m. IsWithin bound m) (λ _. IsWithin-with_gather bound (with_entry n x e) x (gather_above stamp (nth None n.gathers x)) above) (λ _. w)

-- within stays when a content is brought in
pub IsWithin-bring : (bound : ℕ) (n : Node) (x : ℕ) (p : Proposal) (c : Content) → IsWithin bound n → IsWithin bound (bring n x p c)
unfolding bring
IsWithin-bring bound n x p c w =
    cond_both (p.requester == n.me) (with_copy n x (brought p.want c)) n (λ m. IsWithin bound m) (λ _. IsWithin-with_copies bound n (put None n.copies x (brought p.want c)) w) (λ _. w)

-- within stays when a proposal above its base is held
pub IsWithin-holding : (bound : ℕ) (n : Node) (x : ℕ) (p : Proposal) → is_below p.base p.stamp ≡ true → IsWithin bound n → IsWithin bound (holding n x p)
IsWithin-holding bound n x p h w =
    IsWithin-with_entry bound n x record { stamp = (entry n x).stamp; place = (entry n x).place; proposal = Some p } (λ q is. let same : p ≡ q = cc in rw (← same) h) w

drop-empty : {A : Type 0} (k : ℕ) (xs : List A) → xs ≡ [] → drop k xs ≡ []
drop-empty zero xs h = h
drop-empty (suc k) [] h = refl
drop-empty (suc k) (x ∷ xs) h = absurd cc

-- within stays when the count of a stream is raised
pub IsWithin-raise : (bound : ℕ) (n : Node) (t : Stream) (d : ℕ) → IsWithin bound n → IsWithin bound (raise n t d)
unfolding raise
IsWithin-raise bound n t d w =
    let done = (log n t).done in
    let m = after_passing n (take (d - done) (log n t).kept) in
    let l : StreamLog = record { done = d; kept = drop (d - done) (log n t).kept } in
    cond_both (nat_lt done d) (with_log m t l) n (λ k. IsWithin bound k)
    (λ _. IsWithin-with_log bound m t l (λ le. drop-empty (d - done) (log n t).kept (w.kept t le)) (IsWithin-with_copies bound n m.copies w))
    (λ _. w)

-- within stays when an entry of one of the slots is stored
pub IsWithin-store : (bound : ℕ) (n : Node) (r : Invalidation) → r.stream.slot < bound → IsWithin bound n → IsWithin bound (store n r)
IsWithin-store bound n r h w =
    let copies = (store n r).copies in
    IsWithin-with_log bound (with_copies n copies) r.stream
    record { done = (log n r.stream).done; kept = (log n r.stream).kept ++ record { followers = r.followers; writes = r.writes; acks = [] } ∷ [] }
    (λ le. absurd (omega arith)) (IsWithin-with_copies bound n copies w)

-- within stays when entries of an own stream pass
pub IsWithin-pass_own : (bound : ℕ) (n : Node) (i k : ℕ) → IsWithin bound n → IsWithin bound (pass_own n i k)
IsWithin-pass_own bound n i k w =
    let copies = (pass_own n i k).copies in
    IsWithin-with_slot bound (with_copies n copies) i
    record { current = (slot n i).current; done = (slot n i).done + k; pending = drop k (slot n i).pending }
    (λ le. drop-empty k (slot n i).pending (w.pending i le)) (IsWithin-with_copies bound n copies w)

-- within stays when entries of the stored stream of another node pass
pub IsWithin-pass_kept : (bound : ℕ) (n : Node) (t : Stream) (k : ℕ) → IsWithin bound n → IsWithin bound (pass_kept n t k)
IsWithin-pass_kept bound n t k w =
    let copies = (pass_kept n t k).copies in
    IsWithin-with_log bound (with_copies n copies) t record { done = (log n t).done + k; kept = drop k (log n t).kept }
    (λ le. drop-empty k (log n t).kept (w.kept t le)) (IsWithin-with_copies bound n copies w)

-- a list that has an element at a place is not empty
pub not_empty : {A P : Type 0} (i : ℕ) (xs : List A) → i < length xs → xs ≡ [] → P
not_empty i [] h e = absurd (omega arith)
not_empty i (x ∷ xs) h e = absurd cc

-- ---- what a node is stays, but for an install and a stop

-- number, epoch, members, directory, degree, and whether it is stopped, stay
pub record Keeps (old new : Node) : Type 0 where
  pub me : new.me ≡ old.me
  pub epoch : new.epoch ≡ old.epoch
  pub members : new.members ≡ old.members
  pub directory : new.directory ≡ old.directory
  pub degree : new.degree ≡ old.degree
  pub stopped : new.stopped ≡ old.stopped

-- a node keeps what it is if it stays as it is
pub Keeps-refl : (n : Node) → Keeps n n
Keeps-refl n = record { me = refl; epoch = refl; members = refl; directory = refl; degree = refl; stopped = refl }

-- if a node keeps what it is twice in a row, then also over both
pub Keeps-trans : (l m n : Node) → Keeps l m → Keeps m n → Keeps l n
Keeps-trans l m n a b =
    record {
      me = b.me ∙ a.me;
      epoch = b.epoch ∙ a.epoch;
      members = b.members ∙ a.members;
      directory = b.directory ∙ a.directory;
      degree = b.degree ∙ a.degree;
      stopped = b.stopped ∙ a.stopped;
    }

-- a node keeps what it is when a slot is written
pub Keeps-with_slot : (n : Node) (i : ℕ) (l : Slot) → Keeps n (with_slot n i l)
Keeps-with_slot n i l = record { me = refl; epoch = refl; members = refl; directory = refl; degree = refl; stopped = refl }

-- a node keeps what it is when a log is written
pub Keeps-with_log : (n : Node) (t : Stream) (l : StreamLog) → Keeps n (with_log n t l)
Keeps-with_log n t l = record { me = refl; epoch = refl; members = refl; directory = refl; degree = refl; stopped = refl }

-- a node keeps what it is when a gather is written
pub Keeps-with_gather : (n : Node) (x : ℕ) (g : Option Gather) → Keeps n (with_gather n x g)
Keeps-with_gather n x g = record { me = refl; epoch = refl; members = refl; directory = refl; degree = refl; stopped = refl }

-- a node keeps what it is when a stamp and a placement are settled
pub Keeps-settle : (n : Node) (x : ℕ) (stamp : Stamp) (place : Place) → Keeps n (settle n x stamp place)
unfolding settle
Keeps-settle n x stamp place =
    let after = with_gather (with_entry n x (settled_entry (entry n x) stamp place)) x (gather_above stamp (nth None n.gathers x)) in
    cond_both (is_below (entry n x).stamp stamp) after n (λ m. Keeps n m)
    (λ _. record { me = refl; epoch = refl; members = refl; directory = refl; degree = refl; stopped = refl })
    (λ _. Keeps-refl n)

-- a node keeps what it is when it holds a proposal
pub Keeps-holding : (n : Node) (x : ℕ) (p : Proposal) → Keeps n (holding n x p)
Keeps-holding n x p = record { me = refl; epoch = refl; members = refl; directory = refl; degree = refl; stopped = refl }

-- a node keeps what it is when a content is brought in
pub Keeps-bring : (n : Node) (x : ℕ) (p : Proposal) (c : Content) → Keeps n (bring n x p c)
unfolding bring
Keeps-bring n x p c =
    cond_both (p.requester == n.me) (with_copy n x (brought p.want c)) n (λ m. Keeps n m)
    (λ _. record { me = refl; epoch = refl; members = refl; directory = refl; degree = refl; stopped = refl })
    (λ _. Keeps-refl n)

-- a node keeps what it is when the count of a stream is raised
pub Keeps-raise : (n : Node) (t : Stream) (d : ℕ) → Keeps n (raise n t d)
unfolding raise
Keeps-raise n t d =
    let done = (log n t).done in
    let m = after_passing n (take (d - done) (log n t).kept) in
    let l : StreamLog = record { done = d; kept = drop (d - done) (log n t).kept } in
    cond_both (nat_lt done d) (with_log m t l) n (λ k. Keeps n k)
    (λ _. record { me = refl; epoch = refl; members = refl; directory = refl; degree = refl; stopped = refl })
    (λ _. Keeps-refl n)

-- a node keeps what it is when an entry is stored
pub Keeps-store : (n : Node) (r : Invalidation) → Keeps n (store n r)
Keeps-store n r = record { me = refl; epoch = refl; members = refl; directory = refl; degree = refl; stopped = refl }

-- a node keeps what it is when entries of an own stream pass
pub Keeps-pass_own : (n : Node) (i k : ℕ) → Keeps n (pass_own n i k)
Keeps-pass_own n i k = record { me = refl; epoch = refl; members = refl; directory = refl; degree = refl; stopped = refl }

-- a node keeps what it is when entries of the stored stream of another node pass
pub Keeps-pass_kept : (n : Node) (t : Stream) (k : ℕ) → Keeps n (pass_kept n t k)
Keeps-pass_kept n t k = record { me = refl; epoch = refl; members = refl; directory = refl; degree = refl; stopped = refl }

-- a node keeps what it is when other nodes have reported
pub Keeps-reported : (n : Node) (reported : List ℕ) → Keeps n (record n { reported = reported })
Keeps-reported n reported = record { me = refl; epoch = refl; members = refl; directory = refl; degree = refl; stopped = refl }

-- a node keeps what it is when a slot's transaction is committed
pub Keeps-committed : (n : Node) (i : ℕ) (c : Current) (ran : Ran) (followers : List ℕ) (writes : List Write) → Keeps n (committed n i c ran followers writes)
Keeps-committed n i c ran followers writes = record { me = refl; epoch = refl; members = refl; directory = refl; degree = refl; stopped = refl }
