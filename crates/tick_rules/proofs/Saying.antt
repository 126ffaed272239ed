-- What is still to be sent, while letters are added to an effect one after another.
use Rattle.std.proofs.Common.{ℕ, ◌≡◌, ◌<◌, ◌≤◌, ◌+◌, ◌-◌, true, false, List, [], ◌∷◌, ◌++◌, length, take, refl, sym, ap, ◌∙◌, append-nil, append_assoc, arith}
use Rattle.std.specs.Prelude.{nat_le, if◌then◌else◌}
use Rattle.std.proofs.lemmas.Bool.{leb-true}
use Rattle.std.proofs.lemmas.List.{take_all}
use Rattle.zeus_base.specs.Nodes.{has}
use Rattle.zeus_base.specs.declared.order.Stream.{Stream}
use Rattle.zeus_base.specs.LoopLaws.{numbers-next, numbers-none}
use Rattle.zeus_packet.specs.declared.letter.Letter.{Letter}
use Rattle.zeus_model.specs.Commit.{streams_of, streams_outside}
use Rattle.zeus_model.specs.Membership.{letters_of}
use Rattle.zeus_model.specs.Tables.{below, numbers_from}
use Rattle.node_state.specs.declared.effect.Effect.{Effect}
use Rattle.node_state.specs.Done.{Adds}
use Rattle.node_state.specs.EffectLaws.{adds_passes, adds_room, cut_full, cut-append}

-- with what is left the effect ends as with all at the start
pub record StillSends (all rest : List Letter) (before now : Effect) : Type 0 where
  pub letters : take 64 (now.sent ++ rest) ≡ take 64 (before.sent ++ all)
  pub passes : now.passed ≡ before.passed
  pub room : length now.sent ≤ 64

-- nothing is sent yet
pub StillSends-start : (all : List Letter) (out : Effect) → length out.sent ≤ 64 → StillSends all all out out
StillSends-start all out room = record { letters = refl; passes = refl; room = room }

-- some more is sent
pub StillSends-step : (all left xs rest : List Letter) (a b c : Effect) → left ≡ xs ++ rest → StillSends all left a b → Adds xs [] b c → StillSends all rest a c
StillSends-step all left xs rest a b c e f g =
    record {
      letters = ap (λ l. take 64 (l ++ rest)) g.letters ∙ cut-append b.sent xs rest ∙ ap (λ l. take 64 (b.sent ++ l)) (sym e) ∙ f.letters;
      passes = adds_passes xs b c g ∙ f.passes;
      room = adds_room xs [] b c g;
    }

-- what is left is the same letters
pub StillSends-same : (all left rest : List Letter) (a b : Effect) → left ≡ rest → StillSends all left a b → StillSends all rest a b
StillSends-same all left rest a b e f = record { letters = rw (← e) f.letters; passes = f.passes; room = f.room }

-- nothing is left
pub StillSends-end : (all left : List Letter) (a b : Effect) → left ≡ [] → StillSends all left a b → Adds all [] a b
StillSends-end all left a b e f =
    let cut : take 64 (b.sent ++ []) ≡ b.sent = take_all 64 (b.sent ++ []) (rw append-nil f.room) ∙ append-nil b.sent in
    let ends : take 64 (b.sent ++ []) ≡ take 64 (a.sent ++ all) = ap (λ l. take 64 (b.sent ++ l)) (sym e) ∙ f.letters in
    record { letters = sym cut ∙ ends; passes = f.passes ∙ sym (append-nil a.passed) }

-- in a full effect no letter finds room
pub StillSends-full : (all left : List Letter) (a b : Effect) → true ≡ nat_le 64 (length b.sent) → StillSends all left a b → Adds all [] a b
StillSends-full all left a b full f =
    record { letters = cut_full b.sent left (leb-true 64 (length b.sent) (sym full)) f.room ∙ f.letters; passes = f.passes ∙ sym (append-nil a.passed) }

-- a full effect stays as it is, whatever is to be sent
pub adds_full : (xs : List Letter) (out : Effect) → true ≡ nat_le 64 (length out.sent) → length out.sent ≤ 64 → Adds xs [] out out
adds_full xs out full room = StillSends-full xs xs out out full (StillSends-start xs out room)

-- ---- letters of each of the numbers below one

-- the letters of the numbers from one on
abbrev pub letters_from : (ℕ → List Letter) → ℕ → ℕ → List Letter
letters_from f i n = letters_of f (numbers_from i (n - i))

letters-next : (f : ℕ → List Letter) (i n : ℕ) → i < n → letters_from f i n ≡ f i ++ letters_from f (i + 1) n
unfolding letters_of
letters-next f i n h = rw (numbers-next i n h) refl

letters-none : (f : ℕ → List Letter) (i n : ℕ) → n ≤ i → letters_from f i n ≡ []
unfolding letters_of
letters-none f i n h = rw (numbers-none i n h) refl

letters-all : (f : ℕ → List Letter) (n : ℕ) → letters_from f 0 n ≡ letters_of f (below n)
letters-all f n = let all : n - 0 ≡ n = omega arith in rw all refl

module _ (f : ℕ → List Letter) (n : ℕ) (all : List Letter) where
  -- no number has had its turn
  pub each-start : (out : Effect) → all ≡ letters_of f (below n) → length out.sent ≤ 64 → StillSends all (letters_from f 0 n) out out
  each-start out e room = StillSends-same all all (letters_from f 0 n) out out (e ∙ sym (letters-all f n)) (StillSends-start all out room)

  -- the next number has had its turn
  pub each-step : (i : ℕ) (a b c : Effect) → i < n → StillSends all (letters_from f i n) a b → Adds (f i) [] b c → StillSends all (letters_from f (i + 1) n) a c
  each-step i a b c h s add = StillSends-step all (letters_from f i n) (f i) (letters_from f (i + 1) n) a b c (letters-next f i n h) s add

  -- nothing is sent for this number
  pub each-skip : (i : ℕ) (a b : Effect) → i < n → f i ≡ [] → StillSends all (letters_from f i n) a b → StillSends all (letters_from f (i + 1) n) a b
  each-skip i a b h none s = StillSends-same all (letters_from f i n) (letters_from f (i + 1) n) a b (letters-next f i n h ∙ ap (λ l. l ++ letters_from f (i + 1) n) none) s

  -- all numbers have had their turn
  pub each-end : (i : ℕ) (a b : Effect) → n ≤ i → StillSends all (letters_from f i n) a b → Adds all [] a b
  each-end i a b h s = StillSends-end all (letters_from f i n) a b (letters-none f i n h) s

-- ---- letters of streams

-- the letters of the items of two lists
pub letters_of-append : {A : Type 0} (f : A → List Letter) (xs ys : List A) → letters_of f (xs ++ ys) ≡ letters_of f xs ++ letters_of f ys
unfolding letters_of
letters_of-append f [] ys = refl
letters_of-append f (x ∷ xs) ys = ap (λ l. f x ++ l) (letters_of-append f xs ys) ∙ sym (append_assoc (f x) (letters_of f xs) (letters_of f ys))

-- the streams of one node go by their slots
pub letters-streams_of : (f : Stream → List Letter) (m : ℕ) (ss : List ℕ) → letters_of f (streams_of m ss) ≡ letters_of (λ s. f record { node = m; slot = s }) ss
unfolding letters_of streams_of
letters-streams_of f m [] = refl
letters-streams_of f m (s ∷ ss) = ap (λ l. f record { node = m; slot = s } ++ l) (letters-streams_of f m ss)

-- the letters of a node's streams in these slots if it is no member, else none
abbrev pub of_stranger : (Stream → List Letter) → List ℕ → List ℕ → ℕ → List Letter
of_stranger f members slots m = if has m members then [] else letters_of f (streams_of m slots)

-- the letters of the streams outside are those of the strangers
pub letters-outside : (f : Stream → List Letter) (members slots ms : List ℕ) → letters_of f (streams_outside members slots ms) ≡ letters_of (of_stranger f members slots) ms
unfolding letters_of streams_outside
letters-outside f members slots [] = refl
letters-outside f members slots (m ∷ ms) =
    let rest = streams_outside members slots ms in
    elim (has m members) as (λ b. letters_of f (if b then rest else streams_of m slots ++ rest) ≡ (if b then [] else letters_of f (streams_of m slots)) ++ letters_of (of_stranger f members slots) ms) [
      | true ↦ letters-outside f members slots ms
      | false ↦ letters_of-append f (streams_of m slots) rest ∙ ap (λ l. letters_of f (streams_of m slots) ++ l) (letters-outside f members slots ms)
    ]

-- if a node is a member, then there are none
pub of_stranger-member : (f : Stream → List Letter) (members slots : List ℕ) (m : ℕ) → has m members ≡ true → of_stranger f members slots m ≡ []
of_stranger-member f members slots m member = rw member refl

-- if a node is no member, then the letters are those of its streams in these slots
pub of_stranger-other : (f : Stream → List Letter) (members slots : List ℕ) (m : ℕ) → has m members ≡ false → of_stranger f members slots m ≡ letters_of f (streams_of m slots)
of_stranger-other f members slots m other = rw other refl
