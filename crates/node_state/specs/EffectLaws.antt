-- Laws of effects: what is added one after another, cut at 64 letters.
use Rattle.std.specs.Prelude.{ℕ, zero, suc, ◌≡◌, ◌<◌, ◌≤◌, List, [], ◌∷◌, ◌++◌, length, take, refl}
use Rattle.std.proofs.Common.{sym, ap, ◌∙◌, append-nil, append_assoc, arith, length-append}
use Rattle.std.proofs.lemmas.List.{take_all, take-append-le, length-take}
use Rattle.zeus_base.specs.declared.step.Passed.{Passed}
use Rattle.zeus_packet.specs.declared.letter.Letter.{Letter}
use Rattle.zeus_packet.specs.declared.letter.Body.{Body}
use Rattle.zeus_model.specs.Act.{Act, Did, did_then, letter, to_each}
use Rattle.zeus_model.specs.State.{Node}
use Rattle.node_state.specs.declared.effect.Effect.{Effect}
use Rattle.node_state.specs.Done.{Adds, IsActed, IsDone, IsQuiet}

-- an element more is not cut where there is room
pub cut_room : {A : Type 0} (xs : List A) (x : A) → length xs < 64 → xs ++ x ∷ [] ≡ take 64 (xs ++ x ∷ [])
cut_room xs x h = sym (take_all 64 (xs ++ x ∷ []) (omega (arith, length-append xs (x ∷ []))))

-- a full list is cut as it was
pub cut_full : {A : Type 0} (xs ys : List A) → 64 ≤ length xs → length xs ≤ 64 → xs ≡ take 64 (xs ++ ys)
cut_full xs ys h k = sym (take-append-le 64 xs ys h ∙ take_all 64 xs k)

take-take_append : {A : Type 0} (n : ℕ) (xs ys : List A) → take n (take n xs ++ ys) ≡ take n (xs ++ ys)
take-take_append zero xs ys = refl
take-take_append (suc n) [] ys = refl
take-take_append (suc n) (x ∷ xs) ys = ap (λ l. x ∷ l) (take-take_append n xs ys)

-- what is added to a cut list, and then more
pub cut-append : {A : Type 0} (xs ys zs : List A) → take 64 (take 64 (xs ++ ys) ++ zs) ≡ take 64 (xs ++ (ys ++ zs))
cut-append xs ys zs = take-take_append 64 (xs ++ ys) zs ∙ ap (take 64) (simp append_assoc)

-- nothing is added
pub adds_nothing : (out : Effect) → length out.sent ≤ 64 → Adds [] [] out out
adds_nothing out h =
    record {
      letters = sym (take_all 64 (out.sent ++ []) (rw append-nil h) ∙ append-nil out.sent);
      passes = sym (append-nil out.passed);
    }

-- what was added, and more
pub adds-append :
    (xs ys : List Letter) (ps qs : List Passed) (a b c : Effect) → Adds xs ps a b → Adds ys qs b c → Adds (xs ++ ys) (ps ++ qs) a c
adds-append xs ys ps qs a b c f g =
    record {
      letters = g.letters ∙ ap (λ l. take 64 (l ++ ys)) f.letters ∙ cut-append a.sent xs ys;
      passes = g.passes ∙ ap (λ l. l ++ qs) f.passes ∙ append_assoc a.passed ps qs;
    }

-- what was added leaves at most 64 letters
pub adds_room : (xs : List Letter) (ps : List Passed) (a b : Effect) → Adds xs ps a b → length b.sent ≤ 64
adds_room xs ps a b f = rw f.letters (omega (arith, length-take 64 (a.sent ++ xs)))

-- a call that neither sends nor passes leaves the effect as it was
pub quiet_done : {A : Type 0} (d : Did A) (answer : A) (node : Node) (out : Effect) → IsQuiet d answer node → length out.sent ≤ 64 → IsDone d answer node out out
quiet_done d answer node out q h =
    record { says = q.says; becomes = q.becomes; adds = rw (q.unsent, q.unpassed) (adds_nothing out h) }

-- an answer, and then an act
pub done_then :
    {A : Type 0} (d : Did A) (next : Node → Act) (answer : A) (m n : Node) (a b c : Effect) → IsDone d answer m a b → IsActed (next m) n b c
    → IsDone (did_then d next) answer n a c
done_then d next answer m n a b c f g =
    let same = ap next f.becomes in
    record {
      says = f.says;
      becomes = g.becomes ∙ ap (λ (x : Act). x.node) same;
      adds = rw (← same) (adds-append d.sent (next m).sent d.passed (next m).passed a b c f.adds g.adds);
    }

-- letters alone leave the passes
pub adds_passes : (xs : List Letter) (a b : Effect) → Adds xs [] a b → b.passed ≡ a.passed
adds_passes xs a b f = f.passes ∙ append-nil a.passed

-- a loop that sends a letter to each of the nodes
pub sent_step :
    (n : Node) (body : Body) (to : ℕ) (left right : List ℕ) (a b : Effect) → left ≡ to ∷ right → Adds (letter n to body ∷ []) [] a b
    → take 64 (b.sent ++ to_each n right body) ≡ take 64 (a.sent ++ to_each n left body)
unfolding to_each
sent_step n body to left right a b e f =
    rw (e, f.letters) (cut-append a.sent (letter n to body ∷ []) (to_each n right body))

-- if no receiver is left, then the letters sent are the first 64 of those to all receivers
pub sent_end :
    (n : Node) (body : Body) (all : List ℕ) (left : List ℕ) (a b : Effect) → left ≡ []
    → take 64 (b.sent ++ to_each n left body) ≡ take 64 (a.sent ++ to_each n all body) → b.passed ≡ a.passed → length b.sent ≤ 64
    → Adds (to_each n all body) [] a b
unfolding to_each
sent_end n body all left a b e same passes room =
    let cut : take 64 (b.sent ++ []) ≡ b.sent = take_all 64 (b.sent ++ []) (rw append-nil room) ∙ append-nil b.sent in
    record {
      letters = sym cut ∙ rw e at same;
      passes = passes ∙ sym (append-nil a.passed);
    }
