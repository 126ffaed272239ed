-- The changes that commits make of a node keep its ranges: writes of copies, entries that are stored, acknowledged or pass, and begun transactions.
use Rattle.std.specs.Prelude.{ℕ, ◌≡◌, ◌≢◌, ◌+◌, ◌-◌, ◌<◌, ◌≤◌, ◌==◌, ◌&&◌, nat_lt, nat_le, true, List, [], ◌∷◌, ◌++◌, length, take, drop, map, All, Option, Some, None, refl}
use Rattle.std.specs.List.{list_all}
use Rattle.std.proofs.Common.{arith, ◌∙◌, length-append, length-drop}
use Rattle.std.proofs.lemmas.Bool.{and_parts, and_from, ltb-true, leb-true, cond_both}
use Rattle.std.proofs.lemmas.List.Elements.{All-head, All-tail, All-push, All-take, All-drop, All-map, All-weaker}
use Rattle.std.proofs.lemmas.List.Folds.{list_all-append}
use Rattle.zeus_base.specs.declared.config.Limits.{Limits}
use Rattle.zeus_base.specs.declared.order.Stream.{Stream}
use Rattle.zeus_packet.specs.Fits.{nodes_fit, stream_fits, value_fits, write_fits, are_once, writes_fit, inv_fits}
use Rattle.zeus_packet.specs.declared.letter.RInv.{RInv}
use Rattle.zeus_packet.specs.declared.write.Write.{Write}
use Rattle.zeus_model.specs.declared.state.Copy.{Copy}
use Rattle.zeus_model.specs.declared.state.Kept.{Kept}
use Rattle.zeus_model.specs.declared.state.Pending.{Pending}
use Rattle.zeus_model.specs.Commit.{validated, applied, each_write, writes_of, as_kept, after_passing, pass_own, pass_kept, raise, next_kept, store}
use Rattle.zeus_model.specs.Local.{rewritten_copy}
use Rattle.zeus_model.specs.State.{Node, Slot, StreamLog, copy, slot, log, value_of, with_copies, with_copy, with_log}
use Rattle.node_ranges.specs.Parts.{KeepsRanges-with_copy, KeepsRanges-with_slot, KeepsRanges-with_log}
use Rattle.node_ranges.specs.Places.{object_fits-less}
use Rattle.node_ranges.specs.Ranges.{FitsKept, FitsPending, FitsSlot, FitsLog, KeepsRanges}

-- ---- writes of copies

-- a write that fits is of an object that there is
pub write_fits-object : (limits : Limits) (w : Write) → write_fits limits w ≡ true → w.obj < limits.objects
unfolding write_fits
write_fits-object limits w h = object_fits-less limits w.obj (and_parts _ (value_fits limits w.value) h).0

-- and its value fits
pub write_fits-value : (limits : Limits) (w : Write) → write_fits limits w ≡ true → value_fits limits w.value ≡ true
unfolding write_fits
write_fits-value limits w h = (and_parts _ (value_fits limits w.value) h).1

-- a change by a write leaves a value that fits, where the write fits
abbrev pub LeavesFit : Limits → (Write → Option Copy → Option Copy) → Type 0
LeavesFit limits f = (w : Write) (c : Option Copy) → value_fits limits w.value ≡ true → value_fits limits (value_of c) ≡ true → value_fits limits (value_of (f w c)) ≡ true

-- validating leaves a value that fits
pub LeavesFit-validated : (limits : Limits) → LeavesFit limits validated
unfolding validated value_of
LeavesFit-validated limits w None h g = g
LeavesFit-validated limits w (Some c) h g = cond_both (c.ver == w.ver) (Some _) (Some c) (λ o. value_fits limits (value_of o) ≡ true) (λ _. g) (λ _. g)

-- so does a write that a follower takes
pub LeavesFit-applied : (limits : Limits) → LeavesFit limits applied
unfolding applied value_of
LeavesFit-applied limits w None h g = g
LeavesFit-applied limits w (Some c) h g = cond_both (nat_lt c.ver w.ver) (Some _) (Some c) (λ o. value_fits limits (value_of o) ≡ true) (λ _. h) (λ _. g)

-- and one that the owner makes
pub LeavesFit-rewritten : (limits : Limits) → LeavesFit limits rewritten_copy
unfolding rewritten_copy value_of
LeavesFit-rewritten limits w None h g = g
LeavesFit-rewritten limits w (Some c) h g = h

-- a node makes writes that fit on its copies
pub KeepsRanges-each_write : (limits : Limits) (f : Write → Option Copy → Option Copy) (n : Node) (ws : List Write) → LeavesFit limits f → list_all (write_fits limits) ws ≡ true → KeepsRanges limits n → KeepsRanges limits (with_copies n (each_write f n.copies ws))
unfolding each_write
KeepsRanges-each_write limits f n [] leaves h k = k
KeepsRanges-each_write limits f n (w ∷ ws) leaves h k =
    let both = and_parts (write_fits limits w) (list_all (write_fits limits) ws) h in
    let after = f w (copy n w.obj) in
    KeepsRanges-each_write limits f (with_copy n w.obj after) ws leaves both.1
    (KeepsRanges-with_copy limits n w.obj after (write_fits-object limits w both.0) (leaves w (copy n w.obj) (write_fits-value limits w both.0) (k.copies w.obj)) k)

-- the writes of entries that fit, fit
pub writes_of-fit : (limits : Limits) (ks : List Kept) → All (FitsKept limits) ks → list_all (write_fits limits) (writes_of ks) ≡ true
unfolding writes_of
writes_of-fit limits [] h = refl
writes_of-fit limits (k ∷ ks) h =
    list_all-append (write_fits limits) k.writes (writes_of ks)
    ∙ and_from (list_all (write_fits limits) k.writes) (list_all (write_fits limits) (writes_of ks)) (All-head (FitsKept limits) k ks h).writes (writes_of-fit limits ks (All-tail (FitsKept limits) k ks h))

-- entries that fit pass
pub KeepsRanges-after_passing : (limits : Limits) (n : Node) (ks : List Kept) → All (FitsKept limits) ks → KeepsRanges limits n → KeepsRanges limits (after_passing n ks)
KeepsRanges-after_passing limits n ks h k = KeepsRanges-each_write limits validated n (writes_of ks) (LeavesFit-validated limits) (writes_of-fit limits ks h) k

-- ---- entries that pass

-- pending entries that fit do so as stored ones
pub FitsKept-pending : (limits : Limits) (me : ℕ) (ps : List Pending) → All (FitsPending limits me) ps → All (FitsKept limits) (map as_kept ps)
FitsKept-pending limits me ps h = All-map (FitsKept limits) as_kept ps (All-weaker (FitsPending limits me) (λ p. FitsKept limits (as_kept p)) (λ p fit. fit.entry) ps h)

-- a slot fits after its first entries have passed
pub FitsSlot-passed : (limits : Limits) (me k : ℕ) (l : Slot) → k ≤ length l.pending → FitsSlot limits me l → FitsSlot limits me record { current = l.current; done = l.done + k; pending = drop k l.pending }
FitsSlot-passed limits me k l less h =
    let size = length-drop k l.pending in
    record {
      current = h.current;
      few = omega (arith, h.few);
      numbered = omega (arith, h.numbered);
      pending = All-drop (FitsPending limits me) k l.pending h.pending;
    }

-- the first entries of an own slot pass
pub KeepsRanges-pass_own : (limits : Limits) (n : Node) (s k : ℕ) → s < limits.slots → k ≤ length (slot n s).pending → KeepsRanges limits n → KeepsRanges limits (pass_own n s k)
KeepsRanges-pass_own limits n s k within less h =
    let ks = take k (map as_kept (slot n s).pending) in
    let passed = KeepsRanges-after_passing limits n ks (All-take (FitsKept limits) k (map as_kept (slot n s).pending) (FitsKept-pending limits n.me (slot n s).pending (h.slots s).pending)) h in
    KeepsRanges-with_slot limits (after_passing n ks) s record { current = (slot n s).current; done = (slot n s).done + k; pending = drop k (slot n s).pending }
    within (FitsSlot-passed limits n.me k (slot n s) less (h.slots s)) passed

-- so does a stream
pub FitsLog-passed : (limits : Limits) (k : ℕ) (l : StreamLog) → FitsLog limits l → FitsLog limits record { done = l.done + k; kept = drop k l.kept }
FitsLog-passed limits k l h =
    let size = length-drop k l.kept in
    record {
      few = omega (arith, h.few);
      numbered = λ some. omega (arith, h.numbered);
      kept = All-drop (FitsKept limits) k l.kept h.kept;
    }

-- the first stored entries of a stream pass
pub KeepsRanges-pass_kept : (limits : Limits) (n : Node) (s : Stream) (k : ℕ) → s.node < limits.nodes → s.slot < limits.slots → KeepsRanges limits n → KeepsRanges limits (pass_kept n s k)
KeepsRanges-pass_kept limits n s k node within h =
    let ks = take k (log n s).kept in
    let passed = KeepsRanges-after_passing limits n ks (All-take (FitsKept limits) k (log n s).kept (h.logs s).kept) h in
    KeepsRanges-with_log limits (after_passing n ks) s record { done = (log n s).done + k; kept = drop k (log n s).kept } node within (FitsLog-passed limits k (log n s) (h.logs s)) passed

-- and one that was raised
pub FitsLog-raised : (limits : Limits) (d : ℕ) (l : StreamLog) → l.done < d → FitsLog limits l → FitsLog limits record { done = d; kept = drop (d - l.done) l.kept }
FitsLog-raised limits d l less h =
    let size = length-drop (d - l.done) l.kept in
    record {
      few = omega (arith, h.few);
      numbered = λ some. omega (arith, h.numbered);
      kept = All-drop (FitsKept limits) (d - l.done) l.kept h.kept;
    }

-- a stream is raised, whatever the number
pub KeepsRanges-raise : (limits : Limits) (n : Node) (s : Stream) (d : ℕ) → s.node < limits.nodes → s.slot < limits.slots → KeepsRanges limits n → KeepsRanges limits (raise n s d)
unfolding raise
KeepsRanges-raise limits n s d node within h =
    let below = d - (log n s).done in
    let ks = take below (log n s).kept in
    let l : StreamLog = record { done = d; kept = drop below (log n s).kept } in
    cond_both (nat_lt (log n s).done d) (with_log (after_passing n ks) s l) n (λ m. KeepsRanges limits m)
    (λ more. KeepsRanges-with_log limits (after_passing n ks) s l node within (FitsLog-raised limits d (log n s) (ltb-true (log n s).done d more) (h.logs s))
    (KeepsRanges-after_passing limits n ks (All-take (FitsKept limits) below (log n s).kept (h.logs s).kept) h))
    (λ _. h)

-- ---- entries that are stored

-- the ranges of an entry that fits, field by field
pub record InvParts (limits : Limits) (r : RInv) : Type 0 where
  pub node : r.stream.node < limits.nodes
  pub slot : r.stream.slot < limits.slots
  pub number : r.number < 4294967295
  pub done : r.done ≤ r.number
  pub followers : nodes_fit limits r.followers ≡ true
  pub some : 1 ≤ length r.writes
  pub few : length r.writes ≤ 8
  pub writes : list_all (write_fits limits) r.writes ≡ true
  pub once : are_once r.writes ≡ true

-- a stream that fits is of a node
pub stream_fits-node : (limits : Limits) (s : Stream) → stream_fits limits s ≡ true → s.node < limits.nodes
unfolding stream_fits
stream_fits-node limits s h = ltb-true s.node limits.nodes (and_parts (nat_lt s.node limits.nodes) (nat_lt s.slot limits.slots) h).0

-- and of a slot
pub stream_fits-slot : (limits : Limits) (s : Stream) → stream_fits limits s ≡ true → s.slot < limits.slots
unfolding stream_fits
stream_fits-slot limits s h = ltb-true s.slot limits.slots (and_parts (nat_lt s.node limits.nodes) (nat_lt s.slot limits.slots) h).1

-- the parts of the letter of an entry that fits
pub inv_fits-parts : (limits : Limits) (r : RInv) → inv_fits limits r ≡ true → InvParts limits r
unfolding inv_fits writes_fit
inv_fits-parts limits r h =
    let a = stream_fits limits r.stream in
    let b = nat_lt r.number 4294967295 in
    let c = nat_le r.done r.number in
    let d = nodes_fit limits r.followers in
    let p = nat_le 1 (length r.writes) in
    let q = nat_le (length r.writes) 8 in
    let w = list_all (write_fits limits) r.writes in
    let o = are_once r.writes in
    let one = and_parts (a && b && c && d) (p && q && w && o) h in
    let two = and_parts (a && b && c) d one.0 in
    let three = and_parts (a && b) c two.0 in
    let four = and_parts a b three.0 in
    let ones = and_parts (p && q && w) o one.1 in
    let twos = and_parts (p && q) w ones.0 in
    let threes = and_parts p q twos.0 in
    record {
      node = stream_fits-node limits r.stream four.0;
      slot = stream_fits-slot limits r.stream four.0;
      number = ltb-true r.number 4294967295 four.1;
      done = leb-true r.done r.number three.1;
      followers = two.1;
      some = leb-true 1 (length r.writes) threes.0;
      few = leb-true (length r.writes) 8 threes.1;
      writes = twos.1;
      once = ones.1;
    }

FitsLog-stored : (limits : Limits) (r : RInv) (l : StreamLog) → InvParts limits r → r.number ≡ next_kept l → length l.kept ≢ 16 → FitsLog limits l → FitsLog limits record { done = l.done; kept = l.kept ++ record { followers = r.followers; writes = r.writes; acks = [] } ∷ [] }
FitsLog-stored limits r l parts next room h =
    let k : Kept = record { followers = r.followers; writes = r.writes; acks = [] } in
    let size = length-append l.kept (k ∷ []) in
    record {
      few = omega (arith, h.few, room);
      numbered = λ some. omega (arith, parts.number, next);
      kept = All-push (FitsKept limits) l.kept k h.kept (record { followers = parts.followers; some = λ m is. parts.some; few = parts.few; writes = parts.writes; once = parts.once });
    }

-- the next entry of a stream is stored where there is room
pub KeepsRanges-store : (limits : Limits) (n : Node) (r : RInv) → inv_fits limits r ≡ true → r.number ≡ next_kept (log n r.stream) → length (log n r.stream).kept ≢ 16 → KeepsRanges limits n → KeepsRanges limits (store n r)
KeepsRanges-store limits n r fit next room h =
    let parts = inv_fits-parts limits r fit in
    KeepsRanges-with_log limits (with_copies n (each_write applied n.copies r.writes)) r.stream
    record { done = (log n r.stream).done; kept = (log n r.stream).kept ++ record { followers = r.followers; writes = r.writes; acks = [] } ∷ [] }
    parts.node parts.slot (FitsLog-stored limits r (log n r.stream) parts next room (h.logs r.stream))
    (KeepsRanges-each_write limits applied n r.writes (LeavesFit-applied limits) parts.writes h)
