-- What of an act is done, and what of it is left.
use Rattle.std.specs.Prelude.{ℕ, ◌≡◌, ◌≤◌, ◌+◌, List, [], ◌∷◌, ◌++◌, length, take, refl}
use Rattle.std.proofs.Common.{sym, ap, ◌∙◌, append-nil, append_assoc, arith, length-append}
use Rattle.std.proofs.lemmas.List.{take_all}
use Rattle.zeus_model.specs.Act.{Act, and_then, in_turn, still}
use Rattle.zeus_model.specs.State.{Node}
use Rattle.node_state.specs.declared.effect.Effect.{Effect}
use Rattle.node_state.specs.Done.{IsActed}
use Rattle.node_state.specs.EffectLaws.{adds-append, adds_room, cut-append}

-- of an act that began at one effect, another act is left at another effect
pub record Leads (all left : Act) (before after : Effect) : Type 0 where
  pub node : left.node ≡ all.node
  pub letters : take 64 (after.sent ++ left.sent) ≡ take 64 (before.sent ++ all.sent)
  pub passes : after.passed ++ left.passed ≡ before.passed ++ all.passed
  pub room : length after.sent ≤ 64

-- at first all of it is left
pub leads-start : (all left : Act) (out : Effect) → left ≡ all → length out.sent ≤ 64 → Leads all left out out
leads-start all left out e room = rw e record { node = refl; letters = refl; passes = refl; room = room }

-- a part is done, and then the rest is left
pub leads-step : (all left a : Act) (next : Node → Act) (m : Node) (x y z : Effect) → left ≡ and_then a next → Leads all left x y → IsActed a m y z → Leads all (next m) x z
leads-step all left a next m x y z e h g =
    let l = rw e at h in
    rw g.becomes
    record {
      node = l.node;
      letters = rw g.adds.letters (cut-append y.sent a.sent (next a.node).sent ∙ l.letters);
      passes = rw g.adds.passes (append_assoc y.passed a.passed (next a.node).passed ∙ l.passes);
      room = adds_room a.sent a.passed y z g.adds;
    }

-- the same is left
pub leads-same : (all left other : Act) (x y : Effect) → left ≡ other → Leads all left x y → Leads all other x y
leads-same all left other x y e h = rw (← e) h

-- nothing is left
pub leads-end : (all left : Act) (n : Node) (x y : Effect) → left ≡ still n → Leads all left x y → IsActed all n x y
leads-end all left n x y e h =
    let l = rw e at h in
    let cut : take 64 (y.sent ++ []) ≡ y.sent = take_all 64 (y.sent ++ []) (rw append-nil l.room) ∙ append-nil y.sent in
    record {
      becomes = l.node;
      adds = record { letters = sym cut ∙ l.letters; passes = sym (append-nil y.passed) ∙ l.passes };
    }

-- an act, and then another
pub acted_then : (a : Act) (next : Node → Act) (m n : Node) (x y z : Effect) → IsActed a m x y → IsActed (next m) n y z → IsActed (and_then a next) n x z
acted_then a next m n x y z f g =
    let same = ap next f.becomes in
    record {
      becomes = g.becomes ∙ ap (λ (b : Act). b.node) same;
      adds = rw (← same) (adds-append a.sent (next m).sent a.passed (next m).passed x y z f.adds g.adds);
    }

-- how many passes there are then
pub acted-few : (a : Act) (m : Node) (x y : Effect) (k : ℕ) → length a.passed ≤ k → IsActed a m x y → length y.passed ≤ length x.passed + k
acted-few a m x y k few g = rw (g.adds.passes, length-append) (omega (arith, few))

-- a node that has acted has sent at most 64 letters
pub acted-room : (a : Act) (m : Node) (x y : Effect) → IsActed a m x y → length y.sent ≤ 64
acted-room a m x y g = adds_room a.sent a.passed x y g.adds

-- ---- in turn

-- acting on each of a list in turn is acting on the first and then on the others
pub in_turn-next : {A : Type 0} (f : Node → A → Act) (n : Node) (i : A) (is : List A) → in_turn f n (i ∷ is) ≡ and_then (f n i) (λ m. in_turn f m is)
unfolding in_turn
in_turn-next f n i is = refl

-- acting on each of no list does nothing
pub in_turn-none : {A : Type 0} (f : Node → A → Act) (n : Node) → in_turn f n [] ≡ still n
unfolding in_turn
in_turn-none f n = refl

-- the same act, one part and two of its parts taken together
and_then-assoc : (a : Act) (f g : Node → Act) → and_then (and_then a f) g ≡ and_then a (λ m. and_then (f m) g)
and_then-assoc a f g =
    λ i. record {
      node = (g (f a.node).node).node;
      sent = append_assoc a.sent (f a.node).sent (g (f a.node).node).sent i;
      passed = append_assoc a.passed (f a.node).passed (g (f a.node).node).passed i;
    }

-- some items, and then others
pub in_turn-append : {A : Type 0} (f : Node → A → Act) (n : Node) (is js : List A) → in_turn f n (is ++ js) ≡ and_then (in_turn f n is) (λ m. in_turn f m js)
unfolding in_turn
in_turn-append f n [] js = refl
in_turn-append f n (i ∷ is) js =
    ap (and_then (f n i)) (λ d m. in_turn-append f m is js d)
    ∙ sym (and_then-assoc (f n i) (λ m. in_turn f m is) (λ m. in_turn f m js))
