-- The rules of commits keep the ranges, and send letters that fit: entries, acknowledgements, passes, reports and the finish.
use Rattle.std.specs.Prelude.{ℕ, zero, suc, ◌≡◌, ◌+◌, ◌-◌, ◌<◌, ◌≤◌, ◌==◌, ◌&&◌, not, nat_lt, nat_le, Bool, true, List, [], ◌∷◌, ◌++◌, length, take, map, All, if◌then◌else◌, refl}
use Rattle.std.specs.List.{list_all}
use Rattle.std.proofs.Common.{arith}
use Rattle.std.proofs.lemmas.Bool.{and_parts, and_from, cond_both, lt-ltb, le-leb, ltb-true, ltb-false, eqb-false, not-true}
use Rattle.std.proofs.lemmas.List.{length-map}
use Rattle.std.proofs.lemmas.List.Elements.{All-nil, All-cons, All-append}
use Rattle.zeus_base.specs.Nodes.{has, without, meet, with_node}
use Rattle.zeus_base.specs.Tables.{numbers_from}
use Rattle.zeus_base.specs.declared.config.Limits.{Limits}
use Rattle.zeus_base.specs.declared.order.Stream.{Stream}
use Rattle.zeus_packet.specs.Fits.{nodes_fit, stream_fits, write_fits, are_once, writes_fit, inv_fits, body_fits}
use Rattle.zeus_packet.specs.declared.letter.Body.TheVariants.{RAck, RVal, Recovered}
use Rattle.zeus_packet.specs.declared.letter.Cause.TheVariants.{OwnStream, Window}
use Rattle.zeus_packet.specs.declared.letter.RInv.{RInv}
use Rattle.zeus_model.specs.declared.answer.Outcome.{Outcome}
use Rattle.zeus_model.specs.declared.answer.Outcome.TheVariants.{Taken, Again, Gap, Refused}
use Rattle.zeus_model.specs.declared.state.Kept.{Kept}
use Rattle.zeus_model.specs.Act.{Act, Did, still, just, sends, and_then, in_turn, letter, to_each}
use Rattle.zeus_model.specs.Commit.{as_kept, followers_of, passes, passing, told, pass_own, advance_own_by, advance_own, pass_kept, advance_kept_by, advance_kept, raise, next_kept, store, stored_rinv, on_rinv, is_within, on_own_rack, on_kept_rack, on_rack, on_rval, no_pending, no_kept, streams_of, streams_outside, outside, none_stored, report_recovered, finish}
use Rattle.zeus_model.specs.Receive.{on_recovered}
use Rattle.zeus_model.specs.State.{Node, slot, log, with_slot, with_log, own_stream}
use Rattle.zeus_model.specs.Tables.{nth, below, front}
use Rattle.node_ranges.specs.Acts.{letter-fits, to_nodes-fit, Keeping, KeepsAndFits-still, KeepsAndFits-then, in_turn-keeps}
use Rattle.node_ranges.specs.CommitChanges.{KeepsRanges-pass_own, KeepsRanges-pass_kept, KeepsRanges-raise, KeepsRanges-store, inv_fits-parts, stream_fits-node, stream_fits-slot}
use Rattle.node_ranges.specs.NodeSets.{nodes_fit-without, nodes_fit-meet_right}
use Rattle.node_ranges.specs.Places.{AllFit-one}
use Rattle.node_ranges.specs.Ranges.{AllFit, FitsKept, KeepsRanges, KeepsAndFits}
use Rattle.node_ranges.specs.SlotChanges.{acked_slot, acked_log, KeepsRanges-acked_pending, KeepsRanges-acked_kept, KeepsRanges-heard}

-- a stream of a node and a slot fits
pub stream_fits-from : (limits : Limits) (s : Stream) → s.node < limits.nodes → s.slot < limits.slots → stream_fits limits s ≡ true
unfolding stream_fits
stream_fits-from limits s node within = and_from (nat_lt s.node limits.nodes) (nat_lt s.slot limits.slots) (lt-ltb s.node limits.nodes node) (lt-ltb s.slot limits.slots within)

-- ---- passes

told-keeps : (limits : Limits) (n : Node) (s : Stream) (first : ℕ) (ks : List Kept) → s.node < limits.nodes → s.slot < limits.slots → KeepsRanges limits n → KeepsAndFits limits (told n s first ks).node (told n s first ks).sent
unfolding body_fits
told-keeps limits n s first ks node within k =
    record {
      node = k;
      sent = to_nodes-fit limits n (without n.me (meet (followers_of ks) n.members)) (RVal s (first + length ks)) k.nodes
          (nodes_fit-without limits n.me (meet (followers_of ks) n.members) (nodes_fit-meet_right limits (followers_of ks) n.members k.nodes.members))
          (stream_fits-from limits s node within);
    }

front-most : {A : Type 0} (passes : A → Bool) (xs : List A) → front passes xs ≤ length xs
unfolding front
front-most passes [] = omega arith
front-most passes (x ∷ xs) = cond_both (passes x) (suc (front passes xs)) 0 (λ k. k ≤ length (x ∷ xs)) (λ _. omega (arith, front-most passes xs)) (λ _. omega arith)

advance_own_by-keeps : (limits : Limits) (n : Node) (s k : ℕ) → s < limits.slots → k ≤ length (slot n s).pending → KeepsRanges limits n → KeepsAndFits limits (advance_own_by n s k).node (advance_own_by n s k).sent
unfolding advance_own_by
advance_own_by-keeps limits n s zero within less h = KeepsAndFits-still limits n h
advance_own_by-keeps limits n s (suc k) within less h =
    told-keeps limits (pass_own n s (suc k)) (own_stream n s) (slot n s).done (take (suc k) (map as_kept (slot n s).pending)) h.nodes.me within
    (KeepsRanges-pass_own limits n s (suc k) within less h)

-- an own slot passes what has passed
pub advance_own-keeps : (limits : Limits) (s : ℕ) → s < limits.slots → Keeping limits (λ n. advance_own n s)
unfolding advance_own
advance_own-keeps limits s within n h =
    let ks = map as_kept (slot n s).pending in
    let most = front-most (passes n) ks in
    let size = length-map (slot n s).pending as_kept in
    advance_own_by-keeps limits n s (passing n ks) within (omega arith) h

advance_kept_by-keeps : (limits : Limits) (n : Node) (s : Stream) (k : ℕ) → stream_fits limits s ≡ true → KeepsRanges limits n → KeepsAndFits limits (advance_kept_by n s k).node (advance_kept_by n s k).sent
unfolding advance_kept_by
advance_kept_by-keeps limits n s zero fit h = KeepsAndFits-still limits n h
advance_kept_by-keeps limits n s (suc k) fit h =
    let node = stream_fits-node limits s fit in
    let within = stream_fits-slot limits s fit in
    told-keeps limits (pass_kept n s (suc k)) s (log n s).done (take (suc k) (log n s).kept) node within (KeepsRanges-pass_kept limits n s (suc k) node within h)

-- so does a stream of a node that is no member
pub advance_kept-keeps : (limits : Limits) (s : Stream) → stream_fits limits s ≡ true → Keeping limits (λ n. advance_kept n s)
unfolding advance_kept
advance_kept-keeps limits s fit n h = advance_kept_by-keeps limits n s (passing n (log n s).kept) fit h

-- ---- letters of entries

-- R-INV
stored_rinv-keeps : (limits : Limits) (n : Node) (from : ℕ) (r : RInv) → from < limits.nodes → inv_fits limits r ≡ true → KeepsRanges limits n → KeepsAndFits limits (stored_rinv n from r).node (stored_rinv n from r).sent
unfolding stored_rinv body_fits
stored_rinv-keeps limits n from r less fit k =
    let next = next_kept (log n r.stream) in
    let parts = inv_fits-parts limits r fit in
    let ack : AllFit limits (letter n from (RAck r.stream r.number) ∷ []) =
    AllFit-one limits (letter n from (RAck r.stream r.number)) (letter-fits limits n from (RAck r.stream r.number) k.nodes less (stream_fits-from limits r.stream parts.node parts.slot)) in
    let stores = sends (store n r) Taken (letter n from (RAck r.stream r.number) ∷ []) in
    let full = just n (Refused Window) in
    let gap = just n (Gap next) in
    let room = if length (log n r.stream).kept == 16 then full else stores in
    let later = if nat_lt next r.number then gap else room in
    cond_both (nat_lt r.number next) (sends n Again (letter n from (RAck r.stream r.number) ∷ [])) later (λ (d : Did Outcome). KeepsAndFits limits d.node d.sent)
    (λ _. record { node = k; sent = ack })
    (λ not_below. cond_both (nat_lt next r.number) gap room (λ (d : Did Outcome). KeepsAndFits limits d.node d.sent)
    (λ _. KeepsAndFits-still limits n k)
    (λ not_above. cond_both (length (log n r.stream).kept == 16) full stores (λ (d : Did Outcome). KeepsAndFits limits d.node d.sent)
    (λ _. KeepsAndFits-still limits n k)
    (λ some_room. record {
      node = KeepsRanges-store limits n r fit (omega (arith, ltb-false r.number next not_below, ltb-false next r.number not_above)) (eqb-false (length (log n r.stream).kept) 16 some_room) k;
      sent = ack;
    })))

-- R-INV
pub on_rinv-keeps : (limits : Limits) (n : Node) (from : ℕ) (r : RInv) → from < limits.nodes → inv_fits limits r ≡ true → KeepsRanges limits n → KeepsAndFits limits (on_rinv n from r).node (on_rinv n from r).sent
unfolding on_rinv
on_rinv-keeps limits n from r less fit k =
    let parts = inv_fits-parts limits r fit in
    cond_both (r.stream.node == n.me) (just n (Refused OwnStream)) (stored_rinv (raise n r.stream r.done) from r) (λ (d : Did Outcome). KeepsAndFits limits d.node d.sent)
    (λ _. KeepsAndFits-still limits n k)
    (λ _. stored_rinv-keeps limits (raise n r.stream r.done) from r less fit (KeepsRanges-raise limits n r.stream r.done parts.node parts.slot k))

within-place : (number done count : ℕ) → is_within number done count ≡ true → number - done < count
unfolding is_within
within-place number done count h =
    let both = and_parts (not (nat_lt number done)) (nat_lt number (done + count)) h in
    let least = ltb-false number done (not-true (nat_lt number done) both.0) in
    let most = ltb-true number (done + count) both.1 in
    omega arith

-- R-ACK
on_own_rack-keeps : (limits : Limits) (n : Node) (from s number : ℕ) → s < limits.slots → KeepsRanges limits n → KeepsAndFits limits (on_own_rack n from s number).node (on_own_rack n from s number).sent
unfolding on_own_rack
on_own_rack-keeps limits n from s number within k =
    let place = number - (slot n s).done in
    let stands = is_within number (slot n s).done (length (slot n s).pending) in
    let new = not (has from (nth no_pending (slot n s).pending place).acks) in
    cond_both (stands && new) (just (with_slot n s (acked_slot (slot n s) place from)) Taken) (just n Again) (λ (d : Did Outcome). KeepsAndFits limits d.node d.sent)
    (λ counts. KeepsAndFits-still limits (with_slot n s (acked_slot (slot n s) place from))
    (KeepsRanges-acked_pending limits n s place from within (within-place number (slot n s).done (length (slot n s).pending) (and_parts stands new counts).0) k))
    (λ _. KeepsAndFits-still limits n k)

on_kept_rack-keeps : (limits : Limits) (n : Node) (from : ℕ) (s : Stream) (number : ℕ) → stream_fits limits s ≡ true → KeepsRanges limits n → KeepsAndFits limits (on_kept_rack n from s number).node (on_kept_rack n from s number).sent
unfolding on_kept_rack
on_kept_rack-keeps limits n from s number fit k =
    let place = number - (log n s).done in
    let stands = is_within number (log n s).done (length (log n s).kept) in
    let new = not (has from (nth no_kept (log n s).kept place).acks) in
    cond_both (stands && new) (just (with_log n s (acked_log (log n s) place from)) Taken) (just n Again) (λ (d : Did Outcome). KeepsAndFits limits d.node d.sent)
    (λ counts. KeepsAndFits-still limits (with_log n s (acked_log (log n s) place from))
    (KeepsRanges-acked_kept limits n s place from (stream_fits-node limits s fit) (stream_fits-slot limits s fit)
    (within-place number (log n s).done (length (log n s).kept) (and_parts stands new counts).0) k))
    (λ _. KeepsAndFits-still limits n k)

-- R-ACK, for own streams and for foreign ones
pub on_rack-keeps : (limits : Limits) (n : Node) (from : ℕ) (s : Stream) (number : ℕ) → stream_fits limits s ≡ true → KeepsRanges limits n → KeepsAndFits limits (on_rack n from s number).node (on_rack n from s number).sent
unfolding on_rack
on_rack-keeps limits n from s number fit k =
    cond_both (s.node == n.me) (on_own_rack n from s.slot number) (on_kept_rack n from s number) (λ (d : Did Outcome). KeepsAndFits limits d.node d.sent)
    (λ _. on_own_rack-keeps limits n from s.slot number (stream_fits-slot limits s fit) k) (λ _. on_kept_rack-keeps limits n from s number fit k)

-- R-VAL
pub on_rval-keeps : (limits : Limits) (n : Node) (s : Stream) (d : ℕ) → stream_fits limits s ≡ true → KeepsRanges limits n → KeepsAndFits limits (on_rval n s d).node (on_rval n s d).sent
unfolding on_rval
on_rval-keeps limits n s d fit k =
    let rises = if nat_lt (log n s).done d then just (raise n s d) Taken else just n Again in
    cond_both (s.node == n.me) (just n (Refused OwnStream)) rises (λ (a : Did Outcome). KeepsAndFits limits a.node a.sent)
    (λ _. KeepsAndFits-still limits n k)
    (λ _. cond_both (nat_lt (log n s).done d) (just (raise n s d) Taken) (just n Again) (λ (a : Did Outcome). KeepsAndFits limits a.node a.sent)
    (λ _. KeepsAndFits-still limits (raise n s d) (KeepsRanges-raise limits n s d (stream_fits-node limits s fit) (stream_fits-slot limits s fit) k))
    (λ _. KeepsAndFits-still limits n k))

-- Recovered
pub on_recovered-keeps : (limits : Limits) (n : Node) (from : ℕ) → from < limits.nodes → KeepsRanges limits n → KeepsAndFits limits (on_recovered n from).node (on_recovered n from).sent
unfolding on_recovered
on_recovered-keeps limits n from less k =
    cond_both (has from n.reported) (just n Again) (just (record n { reported = with_node from n.reported }) Taken) (λ (a : Did Outcome). KeepsAndFits limits a.node a.sent)
    (λ _. KeepsAndFits-still limits n k)
    (λ _. KeepsAndFits-still limits (record n { reported = with_node from n.reported }) (KeepsRanges-heard limits n from less k))

-- ---- the finish

-- the numbers below a bound are below it
pub All-below : (i k bound : ℕ) → i + k ≤ bound → All (λ s. s < bound) (numbers_from i k)
unfolding numbers_from
All-below i zero bound h = All-nil (λ s. s < bound)
All-below i (suc k) bound h = All-cons (λ s. s < bound) i (numbers_from (suc i) k) (omega arith) (All-below (suc i) k bound (omega arith))

streams_of-fit : (limits : Limits) (node i k : ℕ) → node < limits.nodes → i + k ≤ limits.slots → All (λ s. stream_fits limits s ≡ true) (streams_of node (numbers_from i k))
unfolding streams_of numbers_from
streams_of-fit limits node i zero less h = All-nil (λ s. stream_fits limits s ≡ true)
streams_of-fit limits node i (suc k) less h =
    All-cons (λ s. stream_fits limits s ≡ true) record { node = node; slot = i } (streams_of node (numbers_from (suc i) k))
    (stream_fits-from limits record { node = node; slot = i } less (omega arith)) (streams_of-fit limits node (suc i) k less (omega arith))

streams_outside-fit : (limits : Limits) (members : List ℕ) (slots i k : ℕ) → slots ≤ limits.slots → i + k ≤ limits.nodes → All (λ s. stream_fits limits s ≡ true) (streams_outside members (below slots) (numbers_from i k))
unfolding streams_outside numbers_from
streams_outside-fit limits members slots i zero most h = All-nil (λ s. stream_fits limits s ≡ true)
streams_outside-fit limits members slots i (suc k) most h =
    let rest = streams_outside members (below slots) (numbers_from (suc i) k) in
    let fit = streams_outside-fit limits members slots (suc i) k most (omega arith) in
    cond_both (has i members) rest (streams_of i (below slots) ++ rest) (λ ss. All (λ s. stream_fits limits s ≡ true) ss)
    (λ _. fit) (λ _. All-append (λ s. stream_fits limits s ≡ true) (streams_of i (below slots)) rest (streams_of-fit limits i 0 slots (omega arith) (omega arith)) fit)

-- the streams of nodes that are no members are ones that there are
pub outside-fit : (limits : Limits) (n : Node) → KeepsRanges limits n → All (λ s. stream_fits limits s ≡ true) (outside n)
outside-fit limits n k = streams_outside-fit limits n.members (length n.slots) 0 (length n.logs) (omega (arith, k.sizes.slots)) (omega (arith, k.sizes.nodes))

-- a node that reports keeps its ranges
pub report-keeps : (limits : Limits) → Keeping limits report_recovered
unfolding report_recovered body_fits
report-keeps limits n k =
    let after : Act = record { node = record n { reported = with_node n.me n.reported }; sent = to_each n (without n.me n.members) Recovered; passed = [] } in
    cond_both (not (has n.me n.reported) && none_stored n (outside n)) after (still n) (λ (a : Act). KeepsAndFits limits a.node a.sent)
    (λ _. record {
      node = KeepsRanges-heard limits n n.me k.nodes.me k;
      sent = to_nodes-fit limits n (without n.me n.members) Recovered k.nodes (nodes_fit-without limits n.me n.members k.nodes.members) refl;
    })
    (λ _. KeepsAndFits-still limits n k)

advances-keep : (limits : Limits) → Keeping limits (λ n. in_turn advance_kept n (outside n))
advances-keep limits n k =
    in_turn-keeps limits advance_kept (λ s. stream_fits limits s ≡ true) (outside n) (λ s fit. advance_kept-keeps limits s fit) (outside-fit limits n k) n k

-- the finish
pub finish-keeps : (limits : Limits) → Keeping limits finish
unfolding finish
finish-keeps limits n k =
    let slots = below (length n.slots) in
    KeepsAndFits-then limits (in_turn advance_own n slots) (λ m. and_then (in_turn advance_kept m (outside m)) report_recovered)
    (in_turn-keeps limits advance_own (λ s. s < limits.slots) slots (λ s within. advance_own-keeps limits s within) (All-below 0 (length n.slots) limits.slots (omega (arith, k.sizes.slots))) n k)
    (λ m h. KeepsAndFits-then limits (in_turn advance_kept m (outside m)) report_recovered (advances-keep limits m h) (report-keeps limits))

-- ---- letters of entries

-- the letter of an entry that has writes fits
pub entry_letter-fits : (limits : Limits) (s : Stream) (number done : ℕ) (e : Kept) → stream_fits limits s ≡ true → number < 4294967295 → done ≤ number → FitsKept limits e → 1 ≤ length e.writes →
    inv_fits limits record { stream = s; number = number; done = done; followers = e.followers; writes = e.writes } ≡ true
unfolding inv_fits writes_fit
entry_letter-fits limits s number done e stream small passed h some =
    let a = stream_fits limits s in
    let b = nat_lt number 4294967295 in
    let c = nat_le done number in
    let d = nodes_fit limits e.followers in
    let p = nat_le 1 (length e.writes) in
    let q = nat_le (length e.writes) 8 in
    let w = list_all (write_fits limits) e.writes in
    let o = are_once e.writes in
    let two = and_from a b stream (lt-ltb number 4294967295 small) in
    let three = and_from (a && b) c two (le-leb done number passed) in
    let four = and_from (a && b && c) d three h.followers in
    let twos = and_from p q (le-leb 1 (length e.writes) some) (le-leb (length e.writes) 8 h.few) in
    let threes = and_from (p && q) w twos h.writes in
    let fours = and_from (p && q && w) o threes h.once in
    and_from (a && b && c && d) (p && q && w && o) four fours
