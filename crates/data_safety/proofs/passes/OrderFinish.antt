-- The passes of a finish: own streams, then those of nodes that are no members, none of them twice.
use Rattle.std.specs.Prelude.{ℕ, zero, suc, ◌≡◌, ◌≢◌, ◌≤◌, Bool, true, false, List, [], ◌∷◌, ◌++◌, length, ◌⊎◌, if◌then◌else◌}
use Rattle.std.proofs.Common.{arith, refl, sym, ap, ◌∙◌, inl, inr}
use Rattle.zeus_base.specs.Nodes.{has}
use Rattle.zeus_base.specs.declared.order.Stream.{Stream}
use Rattle.zeus_base.specs.declared.step.Passed.{Passed}
use Rattle.zeus_model.specs.In.{In, here, there}
use Rattle.zeus_model.specs.Tables.{below, numbers_from}
use Rattle.zeus_model.specs.State.{Node, own_stream}
use Rattle.zeus_model.specs.Act.{Act, joined, in_turn}
use Rattle.zeus_model.specs.Commit.{advance_own, advance_kept, streams_of, streams_outside, outside}
use Rattle.zeus_model.specs.InLaws.{In-append}
use Rattle.machine_moves.proofs.Lists.{In-nothing}
use Rattle.machine_moves.proofs.Within.{Keeps-trans}
use Rattle.machine_moves.proofs.Finish.{streams_outside-node}
use Rattle.data_safety.proofs.passes.OrderAdvance.{advanced, all_advanced}
use Rattle.data_safety.proofs.passes.OrderSorted.{Apart-append, all_advanced-append}
use Rattle.data_safety.proofs.passes.OrderTurns.{IsDue, IsDue-before, Grown-trans, round_said, own_turn, kept_turn, IsRound, still_round, turn_then}

-- ---- own streams

-- an own stream from a slot on
abbrev IsOwn : ℕ → ℕ → Stream → Type 0
IsOwn me i t = (t.node ≡ me) × (i ≤ t.slot)

own_round : (c i : ℕ) (m : Node) → IsRound m (in_turn advance_own m (numbers_from i c)) (IsOwn m.me i)
unfolding in_turn numbers_from
own_round zero i m = still_round m (IsOwn m.me i)
own_round (suc c) i m =
    let first = own_turn m i in
    let grown = first.grown in
    let me : (advance_own m i).node.me ≡ m.me = grown.me in
    let later : IsRound (advance_own m i).node (in_turn advance_own (advance_own m i).node (numbers_from (suc i) c)) (IsOwn m.me (suc i)) = rw (me) at (own_round c (suc i) (advance_own m i).node) in
    turn_then (IsOwn m.me i) (IsOwn m.me (suc i)) m (advance_own m i) (in_turn advance_own (advance_own m i).node (numbers_from (suc i) c)) (own_stream m i) first later (refl, omega arith)
    (λ u h. (h.0, omega (arith, h.1)))
    (λ u h e. absurd (omega (arith, h.1, ap (λ (t : Stream). t.slot) e)))

-- ---- streams of nodes that are no members

-- no stream is there twice
unfoldable NoTwice : List Stream → Type 0
NoTwice [] = Unit {0}
NoTwice (t ∷ ts) = ((u : Stream) → In u ts → t ≢ u) × NoTwice ts

kept_round : (ts : List Stream) (members : List ℕ) (me : ℕ) (m : Node) → m.members ≡ members → m.me ≡ me → ((t : Stream) → In t ts → (has t.node members ≡ false) × (t.node ≢ me)) → NoTwice ts → IsRound m (in_turn advance_kept m ts) (λ t. In t ts)
unfolding in_turn NoTwice
kept_round [] members me m same mine out apart = still_round m (λ t. In t [])
kept_round (t ∷ ts) members me m same mine out apart =
    let h = out t (here t ts refl) in
    let foreign : t.node ≢ m.me = rw mine h.1 in
    let first = kept_turn m t (rw same h.0) foreign in
    let after = (advance_kept m t).node in
    let grown = first.grown in
    let keeps = first.keeps in
    let later = kept_round ts members me after (keeps.members ∙ same) (grown.me ∙ mine) (λ u i. out u (there t ts i)) apart.1 in
    turn_then (λ u. In u (t ∷ ts)) (λ u. In u ts) m (advance_kept m t) (in_turn advance_kept after ts) t first later (here t ts refl) (λ u i. there t ts i) apart.0

In-numbers : (k i c : ℕ) → In k (numbers_from i c) → i ≤ k
unfolding numbers_from
In-numbers k i zero m = In-nothing k m
In-numbers k i (suc c) (here _ _ e) = omega arith
In-numbers k i (suc c) (there _ _ m) = omega (arith, In-numbers k (suc i) c m)

streams_of-from : (node i c : ℕ) (t : Stream) → In t (streams_of node (numbers_from i c)) → (t.node ≡ node) × (i ≤ t.slot)
unfolding streams_of numbers_from
streams_of-from node i zero t m = In-nothing t m
streams_of-from node i (suc c) t (here _ _ e) = (ap (λ (u : Stream). u.node) e, omega (arith, ap (λ (u : Stream). u.slot) e))
streams_of-from node i (suc c) t (there _ _ m) =
    let rest = streams_of-from node (suc i) c t m in
    (rest.0, omega (arith, rest.1))

streams_of-once : (node i c : ℕ) → NoTwice (streams_of node (numbers_from i c))
unfolding streams_of numbers_from NoTwice
streams_of-once node i zero = tt
streams_of-once node i (suc c) =
    ((λ u m e. absurd (omega (arith, (streams_of-from node (suc i) c u m).1, ap (λ (t : Stream). t.slot) e))), streams_of-once node (suc i) c)

NoTwice-append : (ts us : List Stream) → NoTwice ts → NoTwice us → ((t : Stream) → In t ts → (u : Stream) → In u us → t ≢ u) → NoTwice (ts ++ us)
unfolding NoTwice
NoTwice-append [] us a b h = b
NoTwice-append (t ∷ ts) us a b h =
    ((λ u m. elim (In-append u ts us m) [ inl l ↦ a.0 u l | inr r ↦ h t (here t ts refl) u r ]), NoTwice-append ts us a.1 b (λ v i. h v (there t ts i)))

outside-in : (member : Bool) (a b : List Stream) (t : Stream) → In t (if member then b else a ++ b) → In t a ⊎ In t b
outside-in true a b t m = inr m
outside-in false a b t m = In-append t a b m

streams_outside-from : (members : List ℕ) (slots i c : ℕ) (t : Stream) → In t (streams_outside members (numbers_from 0 slots) (numbers_from i c)) → i ≤ t.node
unfolding streams_outside numbers_from
streams_outside-from members slots i zero t m = In-nothing t m
streams_outside-from members slots i (suc c) t m =
    elim (outside-in (has i members) (streams_of i (numbers_from 0 slots)) (streams_outside members (numbers_from 0 slots) (numbers_from (suc i) c)) t m) [
      | inl own ↦ omega (arith, (streams_of-from i 0 slots t own).0)
      | inr later ↦ omega (arith, streams_outside-from members slots (suc i) c t later)
    ]

once_outside : (member : Bool) (a b : List Stream) → NoTwice (a ++ b) → NoTwice b → NoTwice (if member then b else a ++ b)
once_outside true a b both second = second
once_outside false a b both second = both

streams_outside-once : (members : List ℕ) (slots i c : ℕ) → NoTwice (streams_outside members (numbers_from 0 slots) (numbers_from i c))
unfolding streams_outside numbers_from NoTwice
streams_outside-once members slots i zero = tt
streams_outside-once members slots i (suc c) =
    let a = streams_of i (numbers_from 0 slots) in
    let b = streams_outside members (numbers_from 0 slots) (numbers_from (suc i) c) in
    let rest = streams_outside-once members slots (suc i) c in
    once_outside (has i members) a b
    (NoTwice-append a b (streams_of-once i 0 slots) rest
    (λ t h u g e. absurd (omega (arith, (streams_of-from i 0 slots t h).0, streams_outside-from members slots (suc i) c u g, ap (λ (v : Stream). v.node) e))))
    rest

-- ---- the whole finish

-- passes of other streams before it change nothing of it
due_before : (ps : List Passed) (m : Node) (q : Passed) → ((p : Passed) → In p ps → p.stream ≢ q.stream) → IsDue (all_advanced m ps) q → IsDue m q
unfolding all_advanced
due_before [] m q other due = due
due_before (p ∷ ps) m q other due =
    IsDue-before m p q (other p (here p ps refl)) (due_before ps (advanced m p) q (λ r i. other r (there p ps i)) due)

-- any stream
abbrev pub IsAny : Stream → Type 0
IsAny t = Unit {0}

round_then : (First Second : Stream → Type 0) (m : Node) (a b : Act) → IsRound m a First → IsRound a.node b Second → ((t u : Stream) → First t → Second u → t ≢ u) → IsRound m (joined a b) IsAny
round_then First Second m a b r s other =
    let at = r.node in
    let due = s.due in
    let apart : (p q : Passed) → In p a.passed → In q b.passed → p.stream ≢ q.stream = λ p q i j. other p.stream q.stream (r.among p i) (s.among q j) in
    record {
      node = s.node ∙ ap (λ (x : Node). all_advanced x b.passed) at ∙ sym (all_advanced-append m a.passed b.passed);
      due = λ q i. elim (In-append q a.passed b.passed i) [
        | inl left ↦ r.due q left
        | inr right ↦ due_before a.passed m q (λ p j. apart p q j right) ((rw (at) at due) q right)
      ];
      among = λ q i. tt;
      apart = Apart-append a.passed b.passed r.apart s.apart (λ p i q j. apart p q i j);
      grown = Grown-trans m a.node b.node r.grown s.grown;
      keeps = Keeps-trans m a.node b.node r.keeps s.keeps;
      said = round_said a.node b.node a.sent b.sent s.grown r.said s.said;
    }

-- what a node does in its finish but for its report
abbrev pub own_passes : Node → Act
own_passes m = in_turn advance_own m (below (length m.slots))

-- the stored streams of the nodes that are no members advance in turn
abbrev pub kept_passes : Node → Act
kept_passes m = in_turn advance_kept m (outside m)

-- the own streams advance, then the stored streams of the nodes that are no members
abbrev pub finish_passes : Node → Act
finish_passes m = joined (own_passes m) (kept_passes (own_passes m).node)

not_me : (members : List ℕ) (a b : ℕ) → has b members ≡ true → has a members ≡ false → a ≢ b
not_me members a b some none same = let other : has b members ≡ false = rw same at none in absurd cc

-- in the finish of a member streams advance, none of them twice
pub finish_round : (m : Node) → has m.me m.members ≡ true → IsRound m (finish_passes m) IsAny
finish_round m member =
    let first = own_round (length m.slots) 0 m in
    let x = (own_passes m).node in
    let keeps = first.keeps in
    let out : (t : Stream) → In t (outside x) → (has t.node m.members ≡ false) × (t.node ≢ m.me) = λ t i.
    let none : has t.node m.members ≡ false = rw (keeps.members) at (streams_outside-node x.members (below (length x.slots)) (below (length x.logs)) t i) in
    (none, not_me m.members t.node m.me member none) in
    let second = kept_round (outside x) m.members m.me x keeps.members keeps.me out (streams_outside-once x.members (length x.slots) 0 (length x.logs)) in
    round_then (IsOwn m.me 0) (λ t. In t (outside x)) m (own_passes m) (kept_passes x) first second (λ t u own i e. (out u i).1 (sym (ap (λ (v : Stream). v.node) e) ∙ own.0))
