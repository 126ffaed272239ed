-- What the streams that advance in turn make of a node, which of their entries pass, and what is said of it.
use Rattle.std.specs.Prelude.{ℕ, zero, suc, ◌≡◌, ◌≢◌, ◌+◌, ◌-◌, ◌≤◌, true, false, List, [], ◌∷◌, ◌++◌, length, take, map, ◌⊎◌}
use Rattle.std.proofs.Common.{arith, refl, sym, ap, ◌∙◌, inl, inr}
use Rattle.std.proofs.lemmas.Bool.{cases_eq}
use Rattle.zeus_base.specs.Nodes.{has, without, meet, is_subset}
use Rattle.zeus_base.specs.declared.order.Stream.{Stream}
use Rattle.zeus_base.specs.declared.step.Passed.{Passed}
use Rattle.zeus_packet.specs.declared.letter.Body.TheVariants.{RVal}
use Rattle.zeus_packet.specs.declared.letter.Letter.{Letter}
use Rattle.zeus_model.specs.In.{In, here, there}
use Rattle.zeus_model.specs.Tables.{front}
use Rattle.zeus_model.specs.State.{Node, slot, log, own_stream}
use Rattle.zeus_model.specs.Act.{Act, still, joined, letter}
use Rattle.zeus_model.specs.Commit.{as_kept, passes, passes_at, passing, followers_of, told, pass_own, advance_own_by, advance_own, pass_kept, advance_kept_by, advance_kept}
use Rattle.zeus_model.specs.InLaws.{In-append}
use Rattle.machine_moves.specs.Move.{own_kept, IsTellable, own_passed, kept_passed}
use Rattle.machine_moves.proofs.Lists.{In-nothing}
use Rattle.machine_moves.proofs.Within.{Keeps, Keeps-refl, Keeps-trans, Keeps-pass_own, Keeps-pass_kept, slot-with_slot_other, log-with_log_other, stream_cases}
use Rattle.machine_moves.proofs.Passing.{to_each-each, front-length, length-take_most, pass_own-slot, pass_kept-log, without-other, without-member, meet-right}
use Rattle.data_safety.proofs.passes.OrderAdvance.{advanced, all_advanced, advanced-own, advanced-kept, two_streams}
use Rattle.data_safety.proofs.passes.OrderSorted.{Apart}

-- ---- passes that can be made

-- a pass takes some of the entries at the front of its stream, each of which passes
pub data IsDue (m : Node) (p : Passed) : Type 0 where
  own_due : (c : ℕ) → p.stream.node ≡ m.me → p.first ≡ (slot m p.stream.slot).done → p.after ≡ (slot m p.stream.slot).done + suc c
      → suc c ≤ front (passes m) (own_kept m p.stream.slot) → IsDue m p
  kept_due : (c : ℕ) → p.stream.node ≢ m.me → has p.stream.node m.members ≡ false → p.first ≡ (log m p.stream).done → p.after ≡ (log m p.stream).done + suc c
      → suc c ≤ front (passes m) (log m p.stream).kept → IsDue m p

-- two nodes have the same of a stream
pub record AgreesOn (m k : Node) (t : Stream) : Type 0 where
  pub me : k.me ≡ m.me
  pub members : k.members ≡ m.members
  pub slot : t.node ≡ m.me → slot k t.slot ≡ slot m t.slot
  pub log : t.node ≢ m.me → log k t ≡ log m t

AgreesOn-sym : (m k : Node) (t : Stream) → AgreesOn m k t → AgreesOn k m t
AgreesOn-sym m k t a =
    record {
      me = sym a.me;
      members = sym a.members;
      slot = λ own. sym (a.slot (own ∙ a.me));
      log = λ other. sym (a.log (λ own. other (own ∙ sym a.me)));
    }

passes-same : (m k : Node) → k.me ≡ m.me → k.members ≡ m.members → passes k ≡ passes m
unfolding passes_at
passes-same m k me members = λ j. λ kept. is_subset (without (me j) (meet kept.followers (members j))) kept.acks

IsDue-agrees : (m k : Node) (p : Passed) → AgreesOn m k p.stream → IsDue m p → IsDue k p
unfolding own_kept
IsDue-agrees m k p a (own_due c own first after passing) =
    let same = a.slot own in
    own_due c (own ∙ sym a.me) (rw (same) first) (rw (same) after) (rw (passes-same m k a.me a.members, same) passing)
IsDue-agrees m k p a (kept_due c other out first after passing) =
    let same = a.log other in
    kept_due c (λ own. other (own ∙ a.me)) (rw (a.members) out) (rw (same) first) (rw (same) after) (rw (passes-same m k a.me a.members, same) passing)

own_agrees : (m : Node) (i c : ℕ) (t : Stream) → (t.node ≡ m.me → t.slot ≢ i) → AgreesOn m (pass_own m i c) t
own_agrees m i c t ne =
    record { me = refl; members = refl; slot = λ own. slot-with_slot_other m i t.slot _ (ne own); log = λ _. refl }

kept_agrees : (m : Node) (u : Stream) (c : ℕ) (t : Stream) → u ≢ t → AgreesOn m (pass_kept m u c) t
kept_agrees m u c t ne =
    record { me = refl; members = refl; slot = λ _. refl; log = λ _. log-with_log_other m u t _ (two_streams t u (λ e. ne (sym e))) }

-- if one stream advances, then the node has the same of each other stream
pub advanced-agrees : (m : Node) (p : Passed) (t : Stream) → p.stream ≢ t → AgreesOn m (advanced m p) t
advanced-agrees m p t ne =
    elim (cases_eq p.stream.node m.me) [
      | inl own ↦ rw (advanced-own m p own) (own_agrees m p.stream.slot (p.after - p.first) t (λ mine slot. ne (λ i. record { node = (own ∙ sym mine) i; slot = (sym slot) i })))
      | inr other ↦ rw (advanced-kept m p other) (kept_agrees m p.stream (p.after - p.first) t ne)
    ]

-- a pass of another stream changes nothing of it
pub IsDue-later : (m : Node) (p q : Passed) → p.stream ≢ q.stream → IsDue m q → IsDue (advanced m p) q
IsDue-later m p q ne = IsDue-agrees m (advanced m p) q (advanced-agrees m p q.stream ne)

-- a pass that is due after another stream has advanced was due before
pub IsDue-before : (m : Node) (p q : Passed) → p.stream ≢ q.stream → IsDue (advanced m p) q → IsDue m q
IsDue-before m p q ne = IsDue-agrees (advanced m p) m q (AgreesOn-sym m (advanced m p) q.stream (advanced-agrees m p q.stream ne))

-- ---- what is said of passes

-- the letter says that entries of a stream have passed, and not more of them than have passed at the node
pub data IsWord (m : Node) (l : Letter) : Type 0 where
  own_word : (to s d : ℕ) → d ≤ (slot m s).done → to ≢ m.me → l ≡ letter m to (RVal (own_stream m s) d) → IsWord m l
  kept_word : (to d : ℕ) (t : Stream) → t.node ≢ m.me → d ≤ (log m t).done → to ≢ t.node → l ≡ letter m to (RVal t d) → IsWord m l

-- a letter that says which entries have passed may be sent without a change of the node
pub IsWord-tellable : (m : Node) (l : Letter) → IsWord m l → IsTellable m l
IsWord-tellable m l (own_word to s d le other is) = rw is (own_passed to s d le other)
IsWord-tellable m l (kept_word to d t foreign le other is) = rw is (kept_passed to d t foreign le other)

-- no stream of the node falls back
pub record Grown (m k : Node) : Type 0 where
  pub me : k.me ≡ m.me
  pub epoch : k.epoch ≡ m.epoch
  pub slots : (i : ℕ) → (slot m i).done ≤ (slot k i).done
  pub logs : (t : Stream) → (log m t).done ≤ (log k t).done

Grown-refl : (m : Node) → Grown m m
Grown-refl m = record { me = refl; epoch = refl; slots = λ i. omega arith; logs = λ t. omega arith }

-- if no stream falls back twice in a row, then none falls back over both
pub Grown-trans : (m k l : Node) → Grown m k → Grown k l → Grown m l
Grown-trans m k l a b =
    record {
      me = b.me ∙ a.me;
      epoch = b.epoch ∙ a.epoch;
      slots = λ i. omega (arith, a.slots i, b.slots i);
      logs = λ t. omega (arith, a.logs t, b.logs t);
    }

IsWord-grown : (m k : Node) (l : Letter) → Grown m k → IsWord m l → IsWord k l
IsWord-grown m k l g (own_word to s d le other is) =
    let me = g.me in
    let epoch = g.epoch in
    own_word to s d (omega (arith, g.slots s)) (λ e. other (e ∙ me)) (is ∙ (λ j. record { from = (sym me) j; to = to; epoch = (sym epoch) j; body = RVal record { node = (sym me) j; slot = s } d }))
IsWord-grown m k l g (kept_word to d t foreign le other is) =
    let me = g.me in
    let epoch = g.epoch in
    kept_word to d t (λ e. foreign (e ∙ me)) (omega (arith, g.logs t)) other (is ∙ (λ j. record { from = (sym me) j; to = to; epoch = (sym epoch) j; body = RVal t d }))

Grown-pass_own : (m : Node) (i c : ℕ) → Grown m (pass_own m i c)
Grown-pass_own m i c =
    record {
      me = refl;
      epoch = refl;
      slots = λ j. elim (cases_eq j i) [
        | inl same ↦ rw (same, pass_own-slot m i c) (omega arith)
        | inr other ↦ let is : slot (pass_own m i c) j ≡ slot m j = slot-with_slot_other m i j _ other in rw is (omega arith)
      ];
      logs = λ t. omega arith;
    }

Grown-pass_kept : (m : Node) (t : Stream) (c : ℕ) → Grown m (pass_kept m t c)
Grown-pass_kept m t c =
    record {
      me = refl;
      epoch = refl;
      slots = λ i. omega arith;
      logs = λ u. elim (stream_cases t u) [
        | inl same ↦ rw (same, pass_kept-log m t c) (omega arith)
        | inr other ↦ let is : log (pass_kept m t c) u ≡ log m u = log-with_log_other m t u _ other in rw is (omega arith)
      ];
    }

-- ---- one stream

Keeps-advanced : (m : Node) (p : Passed) → Keeps m (advanced m p)
Keeps-advanced m p =
    elim (cases_eq p.stream.node m.me) [
      | inl own ↦ rw (advanced-own m p own) (Keeps-pass_own m p.stream.slot (p.after - p.first))
      | inr other ↦ rw (advanced-kept m p other) (Keeps-pass_kept m p.stream (p.after - p.first))
    ]

-- no entry has passed, or some of the stream have, in one pass
pub data StreamAdvance (m : Node) (a : Act) (t : Stream) : Type 0 where
  no_pass : a.passed ≡ [] → a.node ≡ m → StreamAdvance m a t
  one_pass : (p : Passed) → a.passed ≡ p ∷ [] → p.stream ≡ t → IsDue m p → a.node ≡ advanced m p → StreamAdvance m a t

-- a stream has advanced, where it could
pub record IsTurn (m : Node) (a : Act) (t : Stream) : Type 0 where
  pub advance : StreamAdvance m a t
  pub grown : Grown m a.node
  pub keeps : Keeps m a.node
  pub said : (l : Letter) → In l a.sent → IsWord a.node l

still_turn : (m : Node) (t : Stream) → IsTurn m (still m) t
still_turn m t = record { advance = no_pass refl refl; grown = Grown-refl m; keeps = Keeps-refl m; said = λ l i. In-nothing l i }

length-take : {A : Type 0} (k : ℕ) (xs : List A) → k ≤ length xs → length (take k xs) ≡ k
length-take zero xs h = refl
length-take (suc k) [] h = absurd (omega arith)
length-take (suc k) (x ∷ xs) h = ap suc (length-take k xs (omega arith))

own_words : (m : Node) (i c : ℕ) (l : Letter) → In l (told (pass_own m i c) (own_stream m i) (slot m i).done (take c (map as_kept (slot m i).pending))).sent → IsWord (pass_own m i c) l
own_words m i c =
    let after = pass_own m i c in
    let ks = take c (map as_kept (slot m i).pending) in
    let most : length ks ≤ c = length-take_most c (map as_kept (slot m i).pending) in
    let le : (slot m i).done + length ks ≤ (slot after i).done = rw (pass_own-slot m i c) (omega arith) in
    to_each-each (IsWord after) after (without m.me (meet (followers_of ks) m.members)) (RVal (own_stream m i) ((slot m i).done + length ks))
    (λ to h. own_word to i ((slot m i).done + length ks) le (without-other to m.me (meet (followers_of ks) m.members) h) refl)

own_turn_by : (m : Node) (i c : ℕ) → c ≤ front (passes m) (own_kept m i) → IsTurn m (advance_own_by m i c) (own_stream m i)
unfolding advance_own_by own_kept
own_turn_by m i zero h = still_turn m (own_stream m i)
own_turn_by m i (suc c) h =
    let ks = take (suc c) (map as_kept (slot m i).pending) in
    let enough : suc c ≤ length (map as_kept (slot m i).pending) = omega (arith, front-length (passes m) (map as_kept (slot m i).pending)) in
    let count : length ks ≡ suc c = length-take (suc c) (map as_kept (slot m i).pending) enough in
    let p : Passed = record { stream = own_stream m i; first = (slot m i).done; after = (slot m i).done + length ks } in
    let span : suc c ≡ p.after - p.first = omega (arith, count) in
    record {
      advance = one_pass p refl refl (own_due c refl refl (omega (arith, count)) h) (ap (λ (k : ℕ). pass_own m i k) span ∙ sym (advanced-own m p refl));
      grown = Grown-pass_own m i (suc c);
      keeps = Keeps-pass_own m i (suc c);
      said = own_words m i (suc c);
    }

-- an own stream
pub own_turn : (m : Node) (i : ℕ) → IsTurn m (advance_own m i) (own_stream m i)
unfolding advance_own own_kept
own_turn m i = own_turn_by m i (passing m (map as_kept (slot m i).pending)) (omega arith)

kept_words : (m : Node) (t : Stream) (c : ℕ) → has t.node m.members ≡ false → t.node ≢ m.me → (l : Letter) → In l (told (pass_kept m t c) t (log m t).done (take c (log m t).kept)).sent → IsWord (pass_kept m t c) l
kept_words m t c out foreign =
    let after = pass_kept m t c in
    let ks = take c (log m t).kept in
    let most : length ks ≤ c = length-take_most c (log m t).kept in
    let le : (log m t).done + length ks ≤ (log after t).done = rw (pass_kept-log m t c) (omega arith) in
    let member : (to : ℕ) → has to (without m.me (meet (followers_of ks) m.members)) ≡ true → has to m.members ≡ true = λ to h. meet-right to (followers_of ks) m.members (without-member to m.me (meet (followers_of ks) m.members) h) in
    to_each-each (IsWord after) after (without m.me (meet (followers_of ks) m.members)) (RVal t ((log m t).done + length ks))
    (λ to h. kept_word to ((log m t).done + length ks) t foreign le (other_member to t.node m.members (member to h) out) refl)
  where
    other_member : (a b : ℕ) (ms : List ℕ) → has a ms ≡ true → has b ms ≡ false → a ≢ b
    other_member a b ms some none same = let other : has b ms ≡ true = rw same at some in absurd cc

kept_turn_by : (m : Node) (t : Stream) (c : ℕ) → has t.node m.members ≡ false → t.node ≢ m.me → c ≤ front (passes m) (log m t).kept → IsTurn m (advance_kept_by m t c) t
unfolding advance_kept_by
kept_turn_by m t zero out foreign h = still_turn m t
kept_turn_by m t (suc c) out foreign h =
    let ks = take (suc c) (log m t).kept in
    let enough : suc c ≤ length (log m t).kept = omega (arith, front-length (passes m) (log m t).kept) in
    let count : length ks ≡ suc c = length-take (suc c) (log m t).kept enough in
    let p : Passed = record { stream = t; first = (log m t).done; after = (log m t).done + length ks } in
    let span : suc c ≡ p.after - p.first = omega (arith, count) in
    record {
      advance = one_pass p refl refl (kept_due c foreign out refl (omega (arith, count)) h) (ap (λ (k : ℕ). pass_kept m t k) span ∙ sym (advanced-kept m p foreign));
      grown = Grown-pass_kept m t (suc c);
      keeps = Keeps-pass_kept m t (suc c);
      said = kept_words m t (suc c) out foreign;
    }

-- a stored stream whose node is no member
pub kept_turn : (m : Node) (t : Stream) → has t.node m.members ≡ false → t.node ≢ m.me → IsTurn m (advance_kept m t) t
unfolding advance_kept
kept_turn m t out foreign = kept_turn_by m t (passing m (log m t).kept) out foreign (omega arith)

-- ---- streams in turn

-- streams have advanced, none of them twice
pub record IsRound (m : Node) (a : Act) (Among : Stream → Type 0) : Type 0 where
  pub node : a.node ≡ all_advanced m a.passed
  pub due : (p : Passed) → In p a.passed → IsDue m p
  pub among : (p : Passed) → In p a.passed → Among p.stream
  pub apart : Apart a.passed
  pub grown : Grown m a.node
  pub keeps : Keeps m a.node
  pub said : (l : Letter) → In l a.sent → IsWord a.node l

-- where nothing is done, no stream has advanced twice
pub still_round : (m : Node) (Among : Stream → Type 0) → IsRound m (still m) Among
unfolding all_advanced Apart
still_round m Among =
    record {
      node = refl;
      due = λ p i. In-nothing p i;
      among = λ p i. In-nothing p i;
      apart = tt;
      grown = Grown-refl m;
      keeps = Keeps-refl m;
      said = λ l i. In-nothing l i;
    }

-- if streams do not fall back, then what is said of them before and after may be said of the node after
pub round_said : (m k : Node) (a b : List Letter) → Grown m k → ((l : Letter) → In l a → IsWord m l) → ((l : Letter) → In l b → IsWord k l) → (l : Letter) → In l (a ++ b) → IsWord k l
round_said m k a b g first second l i =
    elim (In-append l a b i) [ inl left ↦ IsWord-grown m k l g (first l left) | inr right ↦ second l right ]

-- one pass, and then others of other streams
pub pass_then : (m : Node) (p : Passed) (qs : List Passed) → IsDue m p → ((q : Passed) → In q qs → p.stream ≢ q.stream) → ((q : Passed) → In q qs → IsDue (advanced m p) q) → (q : Passed) → In q (p ∷ qs) → IsDue m q
pass_then m p qs first new later q (here _ _ e) = rw e first
pass_then m p qs first new later q (there _ _ i) = IsDue-before m p q (new q i) (later q i)

first_or_later : (q p : Passed) (ps : List Passed) → In q (p ∷ ps) → (q ≡ p) ⊎ In q ps
first_or_later q p ps (here _ _ e) = inl e
first_or_later q p ps (there _ _ i) = inr i

-- if a stream advances and then others do, none of them twice, then all of them have, none twice
pub turn_then : (Among Later : Stream → Type 0) (m : Node) (a b : Act) (t : Stream) → IsTurn m a t → IsRound a.node b Later → Among t → ((u : Stream) → Later u → Among u) → ((u : Stream) → Later u → t ≢ u) → IsRound m (joined a b) Among
unfolding all_advanced Apart
turn_then Among Later m a b t turn round first more other = by_advance turn.advance
  where
    by_advance : StreamAdvance m a t → IsRound m (joined a b) Among
    by_advance (no_pass none same) =
        let at = round.node in
        let due = round.due in
        record {
          node = rw (none) (rw (same) at at);
          due = rw (none) (rw (same) at due);
          among = rw (none) (λ p i. more p.stream (round.among p i));
          apart = rw (none) round.apart;
          grown = Grown-trans m a.node b.node turn.grown round.grown;
          keeps = rw (same) at round.keeps;
          said = round_said a.node b.node a.sent b.sent round.grown turn.said round.said;
        }
    by_advance (one_pass p some stream due is) =
        let at = round.node in
        let later = round.due in
        let keeps = round.keeps in
        let new : (q : Passed) → In q b.passed → p.stream ≢ q.stream = λ q i. rw (stream) (other q.stream (round.among q i)) in
        record {
          node = rw (some) (rw (is) at at);
          due = rw (some) (pass_then m p b.passed due new (rw (is) at later));
          among = rw (some) (λ q i. elim (first_or_later q p b.passed i) [ inl e ↦ rw (e, stream) first | inr l ↦ more q.stream (round.among q l) ]);
          apart = rw (some) (new, round.apart);
          grown = Grown-trans m a.node b.node turn.grown round.grown;
          keeps = Keeps-trans m (advanced m p) b.node (Keeps-advanced m p) (rw (is) at keeps);
          said = round_said a.node b.node a.sent b.sent round.grown turn.said round.said;
        }
