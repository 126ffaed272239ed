-- Begin and try keep the ranges, and send letters that fit: requests, and the entries of commits.
use Rattle.std.specs.Prelude.{ℕ, ◌≡◌, ◌≢◌, ◌+◌, ◌<◌, ◌≤◌, ◌==◌, not, nat_lt, true, false, List, [], ◌∷◌, length, All, Option, Some, None, is_none, if◌then◌else◌, refl}
use Rattle.std.specs.List.{list_all, list_any}
use Rattle.std.proofs.Common.{arith}
use Rattle.std.proofs.lemmas.Bool.{and_parts, and_from, cond_both, eqb-false, false≢true, not_from_false}
use Rattle.std.proofs.lemmas.Bool.Decides.{nat_tests}
use Rattle.std.proofs.lemmas.List.Elements.{All-cons, All-head, All-tail}
use Rattle.zeus_base.specs.Nodes.{has, without, meet, least}
use Rattle.zeus_base.specs.NodeLaws.{has-head, has-tail, has-without_same}
use Rattle.zeus_base.specs.declared.config.Limits.{Limits}
use Rattle.zeus_base.specs.declared.value.Value.{Value}
use Rattle.zeus_packet.specs.Fits.{nodes_fit, object_fits, write_fits, are_once, body_fits, value_fits}
use Rattle.zeus_packet.specs.declared.letter.Body.TheVariants.{RInv, OReq}
use Rattle.zeus_packet.specs.declared.place.Want.{Want}
use Rattle.zeus_packet.specs.declared.place.Want.TheVariants.{Own, Read as ReadCopy}
use Rattle.zeus_packet.specs.declared.write.Write.{Write as WriteOf}
use Rattle.zeus_txn.specs.Ops.{mentions, named, is_write}
use Rattle.zeus_txn.specs.RunLaws.{keys, AreDistinct, AreOf, run-are_of}
use Rattle.zeus_txn.specs.declared.ops.Op.{Op}
use Rattle.zeus_model.specs.declared.answer.Begin.{Begin}
use Rattle.zeus_model.specs.declared.answer.Begin.TheVariants.{Stopped}
use Rattle.zeus_model.specs.declared.answer.Tried.{Tried}
use Rattle.zeus_model.specs.declared.answer.Tried.TheVariants.{Stopped as TryStopped, NotOwner, Committed}
use Rattle.zeus_model.specs.declared.state.Current.{Current}
use Rattle.zeus_model.specs.declared.state.Kept.{Kept}
use Rattle.zeus_model.specs.Act.{Did, just, sends, letter, to_each}
use Rattle.zeus_model.specs.Commit.{advance_own}
use Rattle.zeus_model.specs.Local.{with_current, begin_free, begin, least_from, driver, ask, requests, not_owned, not_copied, Hindrance, Missing, Unready, hindrance, run_here, read_missing, read_row, full_cause, owner_cause, holder_cause, worn_cause, write_cause, new_writes, replicas_of, invalidation, committed, commit_entry, commit, write_row, try_current, try_slot}
use Rattle.zeus_model.specs.State.{Node, entry, copy, slot, own_stream, next_number, owns, value_of, version_of}
use Rattle.zeus_model.specs.Tables.{or_else, where_true, first_of}
use Rattle.node_ranges.specs.Options.{or_else-none, or_else-either, where_true-none}
use Rattle.node_ranges.specs.Acts.{letter-fits, to_each-fit, KeepsAndFits-still, KeepsAndFits-did_then}
use Rattle.node_ranges.specs.CommitChanges.{write_fits-object}
use Rattle.node_ranges.specs.CommitRules.{advance_own-keeps, entry_letter-fits, stream_fits-from}
use Rattle.node_ranges.specs.NodeSets.{nodes_fit-has, nodes_fit-none, nodes_fit-join, nodes_fit-without, nodes_fit-meet, nodes_fit-least, has-meet_left}
use Rattle.node_ranges.specs.Places.{AllFit-none, AllFit-cons, object_fits-from, place_fits-parts}
use Rattle.node_ranges.specs.Ranges.{AllFit, FitsKept, FitsPending, FitsTx, FitsCurrent, KeepsRanges, KeepsAndFits}
use Rattle.node_ranges.specs.RunValues.{ValueFits, run-fits, run-few, All-mentions, length-new_writes}
use Rattle.node_ranges.specs.SlotChanges.{new_pending, KeepsRanges-with_current, KeepsRanges-no_current, KeepsRanges-committed}

-- ---- begin

begin_free-keeps : (limits : Limits) (n : Node) (s : ℕ) (c : Current) (o : Option Current) → s < limits.slots → FitsTx limits c.tx → KeepsRanges limits n → KeepsAndFits limits (begin_free n s c o).node (begin_free n s c o).sent
unfolding begin_free FitsCurrent
begin_free-keeps limits n s c (Some other) within fit k = KeepsAndFits-still limits n k
begin_free-keeps limits n s c None within fit k = KeepsAndFits-still limits (with_current n s (Some c)) (KeepsRanges-with_current limits n s (Some c) within fit k)

-- a transaction that fits is begun
pub begin-keeps : (limits : Limits) (n : Node) (s id : ℕ) (tx : List Op) → s < limits.slots → FitsTx limits tx → KeepsRanges limits n → KeepsAndFits limits (begin n s id tx).node (begin n s id tx).sent
unfolding begin
begin-keeps limits n s id tx within fit k =
    let c : Current = record { id = id; tx = tx } in
    cond_both n.stopped (just n Stopped) (begin_free n s c (slot n s).current) (λ (d : Did Begin). KeepsAndFits limits d.node d.sent)
    (λ _. KeepsAndFits-still limits n k) (λ _. begin_free-keeps limits n s c (slot n s).current within fit k)

-- ---- requests

least_from-has : (me d : ℕ) (ns : List ℕ) → least_from me ns ≡ Some d → has d ns ≡ true
unfolding least_from first_of or_else where_true
least_from-has me d [] h = absurd cc
least_from-has me d (n ∷ ns) h =
    elim (nat_lt n me) as (λ b. or_else (if not b then Some n else None) (least_from me ns) ≡ Some d → has d (n ∷ ns) ≡ true) [
      | true ↦ λ later. has-tail d n ns (least_from-has me d ns later)
      | false ↦ λ here. let same : n ≡ d = cc in rw same (has-head d ns)
    ] h

-- requests go to a node that there is
pub driver-fits : (limits : Limits) (n : Node) (d : ℕ) → KeepsRanges limits n → driver n ≡ Some d → d < limits.nodes
unfolding driver
driver-fits limits n d k h =
    let ns = meet n.directory n.members in
    let fit = nodes_fit-meet limits n.directory n.members k.nodes.directory in
    or_else-either (least_from n.me ns) (least ns) d (d < limits.nodes) h (λ first. nodes_fit-has limits ns d fit (least_from-has n.me d ns first)) (λ second. nodes_fit-least limits ns d fit second)

ask-fit : (limits : Limits) (n : Node) (want : Want) (xs : List ℕ) (o : Option ℕ) → KeepsRanges limits n → All (λ x. x < limits.objects) xs → ((d : ℕ) → o ≡ Some d → d < limits.nodes) → AllFit limits (ask n want xs o)
unfolding ask body_fits
ask-fit limits n want xs None k all h = AllFit-none limits
ask-fit limits n want [] (Some d) k all h = AllFit-none limits
ask-fit limits n want (x ∷ xs) (Some d) k all h =
    AllFit-cons limits (letter n d (OReq x want)) (ask n want xs (Some d))
    (letter-fits limits n d (OReq x want) k.nodes (h d refl) (object_fits-from limits x (All-head (λ (y : ℕ). y < limits.objects) x xs all)))
    (ask-fit limits n want xs (Some d) k (All-tail (λ (y : ℕ). y < limits.objects) x xs all) h)

-- requests for objects that there are fit
pub requests-fit : (limits : Limits) (n : Node) (want : Want) (xs : List ℕ) → KeepsRanges limits n → All (λ x. x < limits.objects) xs → AllFit limits (requests n want xs)
requests-fit limits n want xs k all = ask-fit limits n want xs (driver n) k all (λ d is. driver-fits limits n d k is)

-- what holds of each object holds of those that the node does not own
pub not_owned-within : (P : ℕ → Type 0) (n : Node) (xs : List ℕ) → All P xs → All P (not_owned n xs)
unfolding not_owned
not_owned-within P n [] all = all
not_owned-within P n (x ∷ xs) all =
    let rest = not_owned-within P n xs (All-tail P x xs all) in
    cond_both (owns n x) (not_owned n xs) (x ∷ not_owned n xs) (λ ys. All P ys) (λ _. rest) (λ _. All-cons P x (not_owned n xs) (All-head P x xs all) rest)

-- and of those that it has no copy of
pub not_copied-within : (P : ℕ → Type 0) (n : Node) (xs : List ℕ) → All P xs → All P (not_copied n xs)
unfolding not_copied
not_copied-within P n [] all = all
not_copied-within P n (x ∷ xs) all =
    let rest = not_copied-within P n xs (All-tail P x xs all) in
    cond_both (is_none (copy n x)) (x ∷ not_copied n xs) (not_copied n xs) (λ ys. All P ys) (λ _. All-cons P x (not_copied n xs) (All-head P x xs all) rest) (λ _. rest)

-- ---- reads

read_missing-keeps : (limits : Limits) (n : Node) (s : ℕ) (c : Current) (x : ℕ) (degree : Option ℕ) → s < limits.slots → FitsTx limits c.tx → KeepsRanges limits n → KeepsAndFits limits (read_missing n s c x degree).node (read_missing n s c x degree).sent
unfolding read_missing
read_missing-keeps limits n s c x None within fit k = KeepsAndFits-still limits (with_current n s None) (KeepsRanges-no_current limits n s within k)
read_missing-keeps limits n s c x (Some degree) within fit k =
    record { node = k; sent = requests-fit limits n ReadCopy (not_copied n (named c.tx)) k (not_copied-within (λ (y : ℕ). y < limits.objects) n (named c.tx) fit.named) }

read_row-keeps : (limits : Limits) (n : Node) (s : ℕ) (c : Current) (h : Option Hindrance) → s < limits.slots → FitsTx limits c.tx → KeepsRanges limits n → KeepsAndFits limits (read_row n s c h).node (read_row n s c h).sent
unfolding read_row
read_row-keeps limits n s c (Some (Missing x)) within fit k = read_missing-keeps limits n s c x n.degree within fit k
read_row-keeps limits n s c (Some (Unready x state)) within fit k = KeepsAndFits-still limits n k
read_row-keeps limits n s c None within fit k = KeepsAndFits-still limits (with_current n s None) (KeepsRanges-no_current limits n s within k)

-- ---- the writes of a commit

new_writes-fit : (limits : Limits) (n : Node) (ws : List (ℕ × Value)) → All (ValueFits limits) ws → ((x : ℕ) → mentions x (keys ws) ≡ true → x < limits.objects) → list_all (write_fits limits) (new_writes n ws) ≡ true
unfolding new_writes write_fits keys mentions
new_writes-fit limits n [] all within = refl
new_writes-fit limits n (w ∷ ws) all within =
    let less : w.0 < limits.objects = within w.0 (grind (arith, nat_tests)) in
    let v : WriteOf = record { obj = w.0; ver = version_of (copy n w.0) + 1; value = w.1 } in
    and_from (write_fits limits v) (list_all (write_fits limits) (new_writes n ws))
    (and_from (object_fits limits w.0) (value_fits limits w.1) (object_fits-from limits w.0 less) (All-head (ValueFits limits) w ws all))
    (new_writes-fit limits n ws (All-tail (ValueFits limits) w ws all) (λ x later. within x (grind (arith, nat_tests))))

any-key : (n : Node) (ws : List (ℕ × Value)) (x : ℕ) → mentions x (keys ws) ≡ false → list_any (λ (v : WriteOf). v.obj == x) (new_writes n ws) ≡ false
unfolding new_writes keys mentions
any-key n [] x h = refl
any-key n (w ∷ ws) x h =
    let rest : mentions x (keys ws) ≡ false = grind (arith, nat_tests) in
    let later = any-key n ws x rest in
    grind (arith, nat_tests)

new_writes-once : (n : Node) (ws : List (ℕ × Value)) → AreDistinct (keys ws) → are_once (new_writes n ws) ≡ true
unfolding new_writes are_once AreDistinct keys
new_writes-once n [] d = refl
new_writes-once n (w ∷ ws) d = and_from _ (are_once (new_writes n ws)) (not_from_false _ (any-key n ws w.0 d.0)) (new_writes-once n ws d.1)

replicas_of-fit : (limits : Limits) (n : Node) (ws : List WriteOf) → list_all (write_fits limits) ws ≡ true → KeepsRanges limits n → nodes_fit limits (replicas_of n ws) ≡ true
unfolding replicas_of
replicas_of-fit limits n [] h k = nodes_fit-none limits
replicas_of-fit limits n (w ∷ ws) h k =
    let both = and_parts (write_fits limits w) (list_all (write_fits limits) ws) h in
    let place = place_fits-parts limits (entry n w.obj).place (k.entries w.obj (write_fits-object limits w both.0)).place in
    nodes_fit-join limits (entry n w.obj).place.replicas (replicas_of n ws) place.replicas (replicas_of-fit limits n ws both.1 k)

-- who follows an entry follows some write
replicas_of-some : (n : Node) (ws : List WriteOf) (m : ℕ) → has m (without n.me (replicas_of n ws)) ≡ true → 1 ≤ length ws
unfolding replicas_of has without
replicas_of-some n [] m h = absurd (false≢true h)
replicas_of-some n (w ∷ ws) m h = omega arith

-- the entry that a commit makes fits
pub commit_fits : (limits : Limits) (n : Node) (c : Current) → FitsTx limits c.tx → KeepsRanges limits n →
    FitsPending limits n.me (new_pending c (run_here n c.tx) (without n.me (replicas_of n (new_writes n (run_here n c.tx).writes))) (new_writes n (run_here n c.tx).writes))
commit_fits limits n c fit k =
    let ran = run_here n c.tx in
    let ws = new_writes n ran.writes in
    let are : AreOf (named c.tx) ran.writes = run-are_of (λ x. value_of (copy n x)) c.tx in
    let all_fit : list_all (write_fits limits) ws ≡ true =
    new_writes-fit limits n ran.writes (run-fits limits (λ x. value_of (copy n x)) c.tx fit.values) (λ x is. All-mentions (λ (y : ℕ). y < limits.objects) (named c.tx) x fit.named (are.named x is)) in
    record {
      entry = record {
        followers = nodes_fit-without limits n.me (replicas_of n ws) (replicas_of-fit limits n ws all_fit k);
        some = λ m is. replicas_of-some n ws m is;
        few = omega (arith, length-new_writes n ran.writes, run-few (λ x. value_of (copy n x)) c.tx, fit.made.objects);
        writes = all_fit;
        once = new_writes-once n ran.writes are.distinct;
      };
      others = has-without_same n.me (replicas_of n ws);
      named = fit.named;
    }

-- ---- commits

-- where a write is not hindered, the slot has room, and its next number is not the last of 32 bits
write_cause-room : (n : Node) (s : ℕ) (tx : List Op) → write_cause n s tx ≡ None → length (slot n s).pending ≢ 16
unfolding write_cause full_cause
write_cause-room n s tx h = eqb-false (length (slot n s).pending) 16 (where_true-none _ _ (or_else-none _ _ h).0)

write_cause-left : (n : Node) (s : ℕ) (tx : List Op) → write_cause n s tx ≡ None → next_number (slot n s) ≢ 4294967295
unfolding write_cause worn_cause
write_cause-left n s tx h =
    let one = or_else-none (full_cause (slot n s)) _ h in
    let two = or_else-none (owner_cause n tx) _ one.1 in
    let three = or_else-none (holder_cause n s tx) _ two.1 in
    let four = or_else-none _ _ three.1 in
    eqb-false (next_number (slot n s)) 4294967295 (where_true-none _ _ four.0)

commit_letters-fit : (limits : Limits) (n : Node) (s : ℕ) (followers : List ℕ) (writes : List WriteOf) → s < limits.slots → next_number (slot n s) < 4294967295 → FitsKept limits record { followers = followers; writes = writes; acks = [] } → KeepsRanges limits n →
    AllFit limits (to_each n (meet followers n.members) (RInv (invalidation n s followers writes)))
unfolding body_fits
commit_letters-fit limits n s followers writes within small h k =
    let e : Kept = record { followers = followers; writes = writes; acks = [] } in
    to_each-fit limits n (meet followers n.members) (RInv (invalidation n s followers writes)) k.nodes
    (λ to is. nodes_fit-has limits followers to h.followers (has-meet_left to followers n.members is))
    (λ to is. entry_letter-fits limits (own_stream n s) (next_number (slot n s)) (slot n s).done e (stream_fits-from limits (own_stream n s) k.nodes.me within) small (omega arith) h
    (h.some to (has-meet_left to followers n.members is)))

-- a write transaction that nothing hinders is committed
pub KeepsRanges-commit : (limits : Limits) (n : Node) (s : ℕ) (c : Current) → s < limits.slots → write_cause n s c.tx ≡ None → FitsTx limits c.tx → KeepsRanges limits n →
    KeepsRanges limits (committed n s c (run_here n c.tx) (without n.me (replicas_of n (new_writes n (run_here n c.tx).writes))) (new_writes n (run_here n c.tx).writes))
KeepsRanges-commit limits n s c within none fit k =
    let ran = run_here n c.tx in
    let writes = new_writes n ran.writes in
    KeepsRanges-committed limits n s c ran (without n.me (replicas_of n writes)) writes within (write_cause-room n s c.tx none) (write_cause-left n s c.tx none) (commit_fits limits n c fit k) k

commit-keeps : (limits : Limits) (n : Node) (s : ℕ) (c : Current) → s < limits.slots → write_cause n s c.tx ≡ None → FitsTx limits c.tx → KeepsRanges limits n →
    KeepsAndFits limits (commit n s c (run_here n c.tx)).node (commit n s c (run_here n c.tx)).sent
unfolding commit commit_entry
commit-keeps limits n s c within none fit k =
    let ran = run_here n c.tx in
    let writes = new_writes n ran.writes in
    let followers = without n.me (replicas_of n writes) in
    let new = commit_fits limits n c fit k in
    let left = write_cause-left n s c.tx none in
    let small : next_number (slot n s) < 4294967295 = omega (arith, left, (k.slots s).numbered) in
    let letters = to_each n (meet followers n.members) (RInv (invalidation n s followers writes)) in
    let first : Did Tried = sends (committed n s c ran followers writes) (Committed c.id (next_number (slot n s)) ran.reply) letters in
    let kept : KeepsAndFits limits first.node first.sent = record {
      node = KeepsRanges-commit limits n s c within none fit k;
      sent = commit_letters-fit limits n s followers writes within small (record { followers = new.entry.followers; some = new.entry.some; few = new.entry.few; writes = new.entry.writes; once = new.entry.once }) k;
    } in
    KeepsAndFits-did_then limits first (λ m. advance_own m s) kept (advance_own-keeps limits s within)

write_row-keeps : (limits : Limits) (n : Node) (s : ℕ) (c : Current) (cause : Option Tried) → write_cause n s c.tx ≡ cause → s < limits.slots → FitsTx limits c.tx → KeepsRanges limits n → KeepsAndFits limits (write_row n s c cause).node (write_row n s c cause).sent
unfolding write_row
write_row-keeps limits n s c None is within fit k = commit-keeps limits n s c within is fit k
write_row-keeps limits n s c (Some (NotOwner x)) is within fit k =
    record { node = k; sent = requests-fit limits n Own (not_owned n (named c.tx)) k (not_owned-within (λ (y : ℕ). y < limits.objects) n (named c.tx) fit.named) }
write_row-keeps limits n s c (Some other) is within fit k = KeepsAndFits-still limits n k

-- ---- try

try_current-keeps : (limits : Limits) (n : Node) (s : ℕ) (o : Option Current) → s < limits.slots → FitsCurrent limits o → KeepsRanges limits n → KeepsAndFits limits (try_current n s o).node (try_current n s o).sent
unfolding try_current FitsCurrent
try_current-keeps limits n s None within fit k = KeepsAndFits-still limits n k
try_current-keeps limits n s (Some c) within fit k =
    cond_both (is_write c.tx) (write_row n s c (write_cause n s c.tx)) (read_row n s c (hindrance n c.tx)) (λ (d : Did Tried). KeepsAndFits limits d.node d.sent)
    (λ _. write_row-keeps limits n s c (write_cause n s c.tx) refl within fit k) (λ _. read_row-keeps limits n s c (hindrance n c.tx) within fit k)

-- a slot of the node is tried
pub try_slot-keeps : (limits : Limits) (n : Node) (s : ℕ) → s < limits.slots → KeepsRanges limits n → KeepsAndFits limits (try_slot n s).node (try_slot n s).sent
unfolding try_slot
try_slot-keeps limits n s within k =
    cond_both n.stopped (just n TryStopped) (try_current n s (slot n s).current) (λ (d : Did Tried). KeepsAndFits limits d.node d.sent)
    (λ _. KeepsAndFits-still limits n k) (λ _. try_current-keeps limits n s (slot n s).current within (k.slots s).current k)
