-- Streams advance: entries pass one after another, and then it is told.
use Rattle.std.specs.Prelude.{ℕ, zero, suc, ◌≡◌, ◌≢◌, ◌+◌, ◌<◌, ◌≤◌, Bool, true, false, List, [], ◌∷◌, ◌++◌, length, take, drop, map, Option, None, if◌then◌else◌}
use Rattle.std.proofs.Common.{arith, refl, ap, ◌∙◌, subst, append_assoc}
use Rattle.std.proofs.lemmas.List.{length-map}
use Rattle.zeus_base.specs.Nodes.{has, without, meet}
use Rattle.zeus_base.specs.NodeLaws.{has-head, has-tail, has-without, has-meet, has-without_same}
use Rattle.zeus_base.specs.declared.order.Stream.{Stream}
use Rattle.zeus_base.specs.TableLaws.{nth-put_same}
use Rattle.zeus_packet.specs.declared.letter.Body.{Body}
use Rattle.zeus_packet.specs.declared.letter.Body.TheVariants.{RVal}
use Rattle.zeus_packet.specs.declared.letter.Letter.{Letter}
use Rattle.zeus_packet.specs.declared.write.Write.{Write}
use Rattle.zeus_model.specs.In.{In, here, there}
use Rattle.zeus_model.specs.Tables.{nth, put, front}
use Rattle.zeus_model.specs.declared.state.Copy.{Copy}
use Rattle.zeus_model.specs.declared.state.Kept.{Kept}
use Rattle.zeus_model.specs.State.{Node, Slot, StreamLog, no_slot, no_log, slot, log, own_stream}
use Rattle.zeus_model.specs.Act.{letter, to_each}
use Rattle.zeus_model.specs.Commit.{validated, each_write, writes_of, as_kept, no_kept, passes, passes_at, passing, followers_of, pass_own, advance_own, advance_own_by, pass_kept, advance_kept, advance_kept_by, told}
use Rattle.machine_moves.specs.SystemState.{SystemState}
use Rattle.machine_moves.specs.Move.{own_kept, own_passed, kept_passed, passes_own, passes_kept, IsTellable}
use Rattle.machine_moves.proofs.Lists.{put-put}
use Rattle.machine_moves.proofs.Within.{slot-with_slot_same, log-with_log_same, Keeps-pass_own, Keeps-pass_kept}
use Rattle.machine_moves.proofs.Reach.{Reaches, Reached, IsReady, known, still_reaches, quiet_reaches, then_reaches, cut_none, quiet_then_tells}

-- ---- letters to each of a list of nodes

-- what holds of the letter to each node of the list, holds of each letter
pub to_each-each : (P : Letter → Type 0) (n : Node) (tos : List ℕ) (body : Body) → ((to : ℕ) → has to tos ≡ true → P (letter n to body)) → (l : Letter) → In l (to_each n tos body) → P l
unfolding to_each
to_each-each P n [] body h l m = elim m [ ]
to_each-each P n (to ∷ tos) body h l (here _ _ e) = rw e (h to (has-head to tos))
to_each-each P n (to ∷ tos) body h l (there _ _ m) = to_each-each P n tos body (λ k i. h k (has-tail k to tos i)) l m

-- ---- the front of a list

front-cases : (first : Bool) (length rest c : ℕ) → suc c ≤ (if first then suc rest else 0) → (0 < suc length) × (first ≡ true) × (c ≤ rest)
front-cases true length rest c h = (omega arith, refl, omega arith)
front-cases false length rest c h = absurd (omega arith)

-- if more than c elements at the front pass a test, then the head passes it, and at least c at the front of the tail
pub front-parts : {A : Type 0} (f : A → Bool) (d : A) (xs : List A) (c : ℕ) → suc c ≤ front f xs → (0 < length xs) × (f (nth d xs 0) ≡ true) × (c ≤ front f (drop 1 xs))
unfolding front nth
front-parts f d [] c h = absurd (omega arith)
front-parts f d (x ∷ xs) c h = front-cases (f x) (length xs) (front f xs) c h

-- not more elements pass a test at the front than there are
pub front-length : {A : Type 0} (f : A → Bool) (xs : List A) → front f xs ≤ length xs
unfolding front
front-length f [] = omega arith
front-length f (x ∷ xs) = grind (arith, front-length f xs)

drop-map : {A B : Type 0} (f : A → B) (k : ℕ) (xs : List A) → map f (drop k xs) ≡ drop k (map f xs)
drop-map f zero xs = refl
drop-map f (suc k) [] = refl
drop-map f (suc k) (x ∷ xs) = drop-map f k xs

drop-more : {A : Type 0} (k : ℕ) (xs : List A) → drop k (drop 1 xs) ≡ drop (suc k) xs
drop-more zero [] = refl
drop-more (suc k) [] = refl
drop-more k (x ∷ xs) = refl

take-more : {A : Type 0} (k : ℕ) (xs : List A) → take 1 xs ++ take k (drop 1 xs) ≡ take (suc k) xs
take-more zero [] = refl
take-more (suc k) [] = refl
take-more k (x ∷ xs) = refl

-- to make the writes of one list and then of another is to make those of both lists in one
pub each_write-append : (f : Write → Option Copy → Option Copy) (copies : List (Option Copy)) (a b : List Write) → each_write f (each_write f copies a) b ≡ each_write f copies (a ++ b)
unfolding each_write
each_write-append f copies [] b = refl
each_write-append f copies (w ∷ ws) b = each_write-append f (put None copies w.obj (f w (nth None copies w.obj))) ws b

writes_of-append : (a b : List Kept) → writes_of a ++ writes_of b ≡ writes_of (a ++ b)
unfolding writes_of
writes_of-append [] b = refl
writes_of-append (k ∷ ks) b = rw (append_assoc) (ap (λ (ws : List Write). k.writes ++ ws) (writes_of-append ks b))

copies-more : (copies : List (Option Copy)) (k : ℕ) (ks : List Kept) → each_write validated (each_write validated copies (writes_of (take 1 ks))) (writes_of (take k (drop 1 ks))) ≡ each_write validated copies (writes_of (take (suc k) ks))
copies-more copies k ks = rw (each_write-append, writes_of-append, take-more k ks) refl

-- ---- an own stream

-- after entries of a slot's own stream pass, its count is higher by as many, and as many are gone from its front
pub pass_own-slot : (m : Node) (i k : ℕ) → slot (pass_own m i k) i ≡ record { current = (slot m i).current; done = (slot m i).done + k; pending = drop k (slot m i).pending }
pass_own-slot m i k = slot-with_slot_same m i record { current = (slot m i).current; done = (slot m i).done + k; pending = drop k (slot m i).pending }

pass_own-kept : (m : Node) (i k : ℕ) → own_kept (pass_own m i k) i ≡ drop k (own_kept m i)
unfolding own_kept
pass_own-kept m i k = rw (pass_own-slot m i k) (drop-map as_kept k (slot m i).pending)

-- if two nodes differ at most in copies and slots, and those are equal, then the nodes are equal
pub node_by : (m : Node) (c d : List (Option Copy)) (a b : List Slot) → c ≡ d → a ≡ b → ◌≡◌ {A = Node} (record m { copies = c; slots = a }) (record m { copies = d; slots = b })
node_by m c d a b e h = λ j. record m { copies = e j; slots = h j }

-- entries of a slot that is given pass
abbrev pub pass_of : Node → ℕ → Slot → ℕ → Node
pass_of m i l k =
    record m {
      copies = each_write validated m.copies (writes_of (take k (map as_kept l.pending)));
      slots = put no_slot m.slots i record { current = l.current; done = l.done + k; pending = drop k l.pending };
    }

slots-more : (slots : List Slot) (i : ℕ) (l : Slot) (k : ℕ) → put no_slot (put no_slot slots i record { current = l.current; done = l.done + 1; pending = drop 1 l.pending }) i record { current = l.current; done = l.done + 1 + k; pending = drop k (drop 1 l.pending) } ≡ put no_slot slots i record { current = l.current; done = l.done + suc k; pending = drop (suc k) l.pending }
slots-more slots i l k =
    let sum : l.done + 1 + k ≡ l.done + suc k = omega arith in
    rw (put-put, sum, drop-more k l.pending) refl

pass_of-more : (m : Node) (i : ℕ) (l : Slot) (k : ℕ) → pass_of (pass_of m i l 1) i record { current = l.current; done = l.done + 1; pending = drop 1 l.pending } k ≡ pass_of m i l (suc k)
pass_of-more m i l k =
    node_by m _ _ _ _ (rw (drop-map as_kept 1 l.pending) (copies-more m.copies k (map as_kept l.pending))) (slots-more m.slots i l k)

-- if one entry of the own stream passes and then k more, then it is as if k + 1 passed at once
pub pass_own-more : (m : Node) (i k : ℕ) → pass_own (pass_own m i 1) i k ≡ pass_own m i (suc k)
pass_own-more m i k = ap (λ (l : Slot). pass_of (pass_own m i 1) i l k) (pass_own-slot m i 1) ∙ pass_of-more m i (slot m i) k

-- a slot's own stream has as many entries as the slot has pending
pub own_kept-length : (m : Node) (i : ℕ) → length (own_kept m i) ≡ length (slot m i).pending
unfolding own_kept
own_kept-length m i = length-map (slot m i).pending as_kept

own_pass : (s : SystemState) (n i : ℕ) → IsReady s n → 1 ≤ front (passes (s.node n)) (own_kept (s.node n) i) → Reaches s n (pass_own (s.node n) i 1) []
own_pass s n i ready h =
    let m = s.node n in
    let first = front-parts (passes m) no_kept (own_kept m i) 0 h in
    quiet_reaches s n (pass_own m i 1) ready.live (Keeps-pass_own m i 1) (λ ch. passes_own n i (rw (own_kept-length m i) at first.0) first.1 ch)

-- after a pass the next entries can still pass
pub own_front : (m : Node) (i c : ℕ) → suc (suc c) ≤ front (passes m) (own_kept m i) → suc c ≤ front (passes (pass_own m i 1)) (own_kept (pass_own m i 1) i)
unfolding passes_at
own_front m i c h = rw (pass_own-kept m i 1) (front-parts (passes m) no_kept (own_kept m i) (suc c) h).2

-- the entries of an own stream pass one after another
pub own_passes : (c : ℕ) (s : SystemState) (n i : ℕ) → IsReady s n → suc c ≤ front (passes (s.node n)) (own_kept (s.node n) i) → Reaches s n (pass_own (s.node n) i (suc c)) []
own_passes zero s n i ready h = own_pass s n i ready h
own_passes (suc c) s n i ready h =
    let m = s.node n in
    then_reaches s n (pass_own m i 1) (pass_own m i (suc (suc c))) [] [] ready (own_pass s n i ready (omega arith))
    (λ t rt b.
    rw (← pass_own-more m i (suc c))
    (subst (λ (x : Node). suc c ≤ front (passes x) (own_kept x i) → Reaches t n (pass_own x i (suc c)) []) b.node (own_passes c t n i rt) (own_front m i c h)))

-- the front of a list of count k has at most k elements
pub length-take_most : {A : Type 0} (k : ℕ) (xs : List A) → length (take k xs) ≤ k
length-take_most zero xs = omega arith
length-take_most (suc k) [] = omega arith
length-take_most (suc k) (x ∷ xs) = omega (arith, length-take_most k xs)

-- a member of a set without a node is another node
pub without-other : (k n : ℕ) (ms : List ℕ) → has k (without n ms) ≡ true → k ≢ n
without-other k n ms h same =
    let none : has n (without n ms) ≡ false = has-without_same n ms in
    let some : has n (without n ms) ≡ true = rw same at h in
    absurd cc

-- a member of a set without a node is a member of the set
pub without-member : (k n : ℕ) (ms : List ℕ) → has k (without n ms) ≡ true → has k ms ≡ true
without-member k n ms h = grind (arith, has-without k n ms)

-- a member of an intersection is a member of the left set
pub meet-left : (k : ℕ) (ms ns : List ℕ) → has k (meet ms ns) ≡ true → has k ms ≡ true
meet-left k ms ns h = grind (arith, has-meet k ms ns)

-- a member of an intersection is a member of the right set
pub meet-right : (k : ℕ) (ms ns : List ℕ) → has k (meet ms ns) ≡ true → has k ns ≡ true
meet-right k ms ns h = grind (arith, has-meet k ms ns)

own_telling : (m : Node) (i k : ℕ) (l : Letter) → In l (told (pass_own m i k) (own_stream m i) (slot m i).done (take k (map as_kept (slot m i).pending))).sent → IsTellable (pass_own m i k) l
own_telling m i k =
    let after = pass_own m i k in
    let ks = take k (map as_kept (slot m i).pending) in
    let tos = without m.me (meet (followers_of ks) m.members) in
    let most : length ks ≤ k = length-take_most k (map as_kept (slot m i).pending) in
    let le : (slot m i).done + length ks ≤ (slot after i).done = rw (pass_own-slot m i k) (omega arith) in
    to_each-each (IsTellable after) after tos (RVal (own_stream m i) ((slot m i).done + length ks)) (λ to h. own_passed to i ((slot m i).done + length ks) le (without-other to m.me (meet (followers_of ks) m.members) h))

advance_own_by-reached : (s : SystemState) (n i k c : ℕ) → IsReady s n → c ≤ front (passes (s.node n)) (own_kept (s.node n) i) → Reached s n k (advance_own_by (s.node n) i c)
unfolding advance_own_by
advance_own_by-reached s n i k zero ready h = cut_none s n (s.node n) k (still_reaches s n)
advance_own_by-reached s n i k (suc c) ready h =
    quiet_then_tells s n k (pass_own (s.node n) i (suc c)) _ ready (own_passes c s n i ready h) (own_telling (s.node n) i (suc c))

-- if a node is ready, then moves reach the advance of an own stream
pub advance_own-reached : (s : SystemState) (n i k : ℕ) → IsReady s n → Reached s n k (advance_own (s.node n) i)
unfolding advance_own own_kept
advance_own-reached s n i k ready =
    advance_own_by-reached s n i k (passing (s.node n) (map as_kept (slot (s.node n) i).pending)) ready (omega arith)

-- ---- a stream whose node is no member

-- after stored entries of a stream pass, its count is higher by as many, and as many are gone from its front
pub pass_kept-log : (m : Node) (t : Stream) (k : ℕ) → log (pass_kept m t k) t ≡ record { done = (log m t).done + k; kept = drop k (log m t).kept }
pass_kept-log m t k = log-with_log_same m t record { done = (log m t).done + k; kept = drop k (log m t).kept }

-- if two nodes differ at most in copies and logs, and those are equal, then the nodes are equal
pub node_with_logs : (m : Node) (c d : List (Option Copy)) (a b : List (List StreamLog)) → c ≡ d → a ≡ b → ◌≡◌ {A = Node} (record m { copies = c; logs = a }) (record m { copies = d; logs = b })
node_with_logs m c d a b e h = λ j. record m { copies = e j; logs = h j }

-- entries of a log that is given pass
abbrev pub pass_kept_of : Node → Stream → StreamLog → ℕ → Node
pass_kept_of m t l k =
    record m {
      copies = each_write validated m.copies (writes_of (take k l.kept));
      logs = put [] m.logs t.node (put no_log (nth [] m.logs t.node) t.slot record { done = l.done + k; kept = drop k l.kept });
    }

logs-put : (logs : List (List StreamLog)) (node slot : ℕ) (a b : StreamLog) → put [] (put [] logs node (put no_log (nth [] logs node) slot a)) node (put no_log (nth [] (put [] logs node (put no_log (nth [] logs node) slot a)) node) slot b) ≡ put [] logs node (put no_log (nth [] logs node) slot b)
logs-put logs node slot a b = rw (nth-put_same [] logs node (put no_log (nth [] logs node) slot a), put-put no_log (nth [] logs node) slot a b, put-put) refl

log-more : (l : StreamLog) (k : ℕ) → ◌≡◌ {A = StreamLog} (record { done = l.done + 1 + k; kept = drop k (drop 1 l.kept) }) (record { done = l.done + suc k; kept = drop (suc k) l.kept })
log-more l k = let sum : l.done + 1 + k ≡ l.done + suc k = omega arith in rw (sum, drop-more k l.kept) refl

pass_kept_of-more : (m : Node) (t : Stream) (l : StreamLog) (k : ℕ) → pass_kept_of (pass_kept_of m t l 1) t record { done = l.done + 1; kept = drop 1 l.kept } k ≡ pass_kept_of m t l (suc k)
pass_kept_of-more m t l k =
    node_with_logs m _ _ _ _ (copies-more m.copies k l.kept)
    (logs-put m.logs t.node t.slot record { done = l.done + 1; kept = drop 1 l.kept } record { done = l.done + 1 + k; kept = drop k (drop 1 l.kept) }
    ∙ ap (λ (b : StreamLog). put [] m.logs t.node (put no_log (nth [] m.logs t.node) t.slot b)) (log-more l k))

-- if one stored entry of a stream passes and then k more, then it is as if k + 1 passed at once
pub pass_kept-more : (m : Node) (t : Stream) (k : ℕ) → pass_kept (pass_kept m t 1) t k ≡ pass_kept m t (suc k)
pass_kept-more m t k = ap (λ (l : StreamLog). pass_kept_of (pass_kept m t 1) t l k) (pass_kept-log m t 1) ∙ pass_kept_of-more m t (log m t) k

-- a live node is a member of its view, so a node that is no member is another
pub self_member : (s : SystemState) (n : ℕ) → IsReady s n → has n (s.node n).members ≡ true
self_member s n ready =
    let k = known s n ready in
    let m = s.node n in
    rw (k.members) (k.everywhere m.epoch k.first k.made)

-- a node that is no member of a ready node's view is not that node
pub outsider_other : (s : SystemState) (n k : ℕ) → IsReady s n → has k (s.node n).members ≡ false → k ≢ n
outsider_other s n k ready out same =
    let some : has n (s.node n).members ≡ true = self_member s n ready in
    let none : has n (s.node n).members ≡ false = rw same at out in
    absurd cc

kept_pass : (s : SystemState) (n : ℕ) (t : Stream) → IsReady s n → has t.node (s.node n).members ≡ false → 1 ≤ front (passes (s.node n)) (log (s.node n) t).kept → Reaches s n (pass_kept (s.node n) t 1) []
kept_pass s n t ready out h =
    let m = s.node n in
    let first = front-parts (passes m) no_kept (log m t).kept 0 h in
    quiet_reaches s n (pass_kept m t 1) ready.live (Keeps-pass_kept m t 1) (λ ch. passes_kept n t out (outsider_other s n t.node ready out) first.0 first.1 ch)

-- if at least c + 2 stored entries may pass, then after one has passed at least c + 1 still may
pub kept_front : (m : Node) (t : Stream) (c : ℕ) → suc (suc c) ≤ front (passes m) (log m t).kept → suc c ≤ front (passes (pass_kept m t 1)) (log (pass_kept m t 1) t).kept
unfolding passes_at
kept_front m t c h = rw (pass_kept-log m t 1) (front-parts (passes m) no_kept (log m t).kept (suc c) h).2

-- its entries pass one after another
pub kept_passes : (c : ℕ) (s : SystemState) (n : ℕ) (t : Stream) → IsReady s n → has t.node (s.node n).members ≡ false → suc c ≤ front (passes (s.node n)) (log (s.node n) t).kept → Reaches s n (pass_kept (s.node n) t (suc c)) []
kept_passes zero s n t ready out h = kept_pass s n t ready out h
kept_passes (suc c) s n t ready out h =
    let m = s.node n in
    then_reaches s n (pass_kept m t 1) (pass_kept m t (suc (suc c))) [] [] ready (kept_pass s n t ready out (omega arith))
    (λ u ru b.
    rw (← pass_kept-more m t (suc c))
    (subst (λ (x : Node). has t.node x.members ≡ false → suc c ≤ front (passes x) (log x t).kept → Reaches u n (pass_kept x t (suc c)) []) b.node (kept_passes c u n t ru) out (kept_front m t c h)))

kept_telling : (m : Node) (t : Stream) (k : ℕ) → has t.node m.members ≡ false → t.node ≢ m.me → (l : Letter) → In l (told (pass_kept m t k) t (log m t).done (take k (log m t).kept)).sent → IsTellable (pass_kept m t k) l
kept_telling m t k out foreign =
    let after = pass_kept m t k in
    let ks = take k (log m t).kept in
    let tos = without m.me (meet (followers_of ks) m.members) in
    let most : length ks ≤ k = length-take_most k (log m t).kept in
    let le : (log m t).done + length ks ≤ (log after t).done = rw (pass_kept-log m t k) (omega arith) in
    let member : (to : ℕ) → has to tos ≡ true → has to m.members ≡ true = λ to h. meet-right to (followers_of ks) m.members (without-member to m.me (meet (followers_of ks) m.members) h) in
    to_each-each (IsTellable after) after tos (RVal t ((log m t).done + length ks)) (λ to h. kept_passed to ((log m t).done + length ks) t foreign le (other_member to t.node m.members (member to h) out))
  where
    other_member : (a b : ℕ) (ms : List ℕ) → has a ms ≡ true → has b ms ≡ false → a ≢ b
    other_member a b ms some none same = let other : has b ms ≡ true = rw same at some in absurd cc

advance_kept_by-reached : (s : SystemState) (n : ℕ) (t : Stream) (k c : ℕ) → IsReady s n → has t.node (s.node n).members ≡ false → c ≤ front (passes (s.node n)) (log (s.node n) t).kept → Reached s n k (advance_kept_by (s.node n) t c)
unfolding advance_kept_by
advance_kept_by-reached s n t k zero ready out h = cut_none s n (s.node n) k (still_reaches s n)
advance_kept_by-reached s n t k (suc c) ready out h =
    let me = known s n ready in
    let foreign : t.node ≢ (s.node n).me = rw (me.me) (outsider_other s n t.node ready out) in
    quiet_then_tells s n k (pass_kept (s.node n) t (suc c)) _ ready (kept_passes c s n t ready out h) (kept_telling (s.node n) t (suc c) out foreign)

-- a stream whose node is no member advances
pub advance_kept-reached : (s : SystemState) (n : ℕ) (t : Stream) (k : ℕ) → IsReady s n → has t.node (s.node n).members ≡ false → Reached s n k (advance_kept (s.node n) t)
unfolding advance_kept
advance_kept-reached s n t k ready out =
    advance_kept_by-reached s n t k (passing (s.node n) (log (s.node n) t).kept) ready out (omega arith)
