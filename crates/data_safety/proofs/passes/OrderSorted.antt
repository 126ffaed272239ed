-- Passes of different streams, sorted: the same passes, and the node becomes the same.
use Rattle.std.specs.Prelude.{◌≡◌, ◌≢◌, List, [], ◌∷◌, ◌++◌, ◌⊎◌}
use Rattle.std.proofs.Common.{refl, sym, ap, ◌∙◌, inl, inr}
use Rattle.std.proofs.lemmas.Bool.{cond_both}
use Rattle.zeus_base.specs.Order.{is_before}
use Rattle.zeus_base.specs.declared.step.Passed.{Passed}
use Rattle.zeus_model.specs.In.{In, here, there}
use Rattle.zeus_model.specs.Book.{inserted, in_stream_order}
use Rattle.zeus_model.specs.State.{Node}
use Rattle.zeus_model.specs.InLaws.{In-append}
use Rattle.data_safety.proofs.passes.OrderAdvance.{advanced, all_advanced, advanced-swap}

-- the stream is none of those of the passes
abbrev pub IsNew : Passed → List Passed → Type 0
IsNew p ps = (q : Passed) → In q ps → p.stream ≢ q.stream

-- no two of the passes are of one stream
unfoldable pub Apart : List Passed → Type 0
Apart [] = Unit {0}
Apart (p ∷ ps) = IsNew p ps × Apart ps

inserted-In : (p q : Passed) (ps : List Passed) → In q (inserted p ps) → (q ≡ p) ⊎ In q ps
unfolding inserted
inserted-In p q [] (here _ _ e) = inl e
inserted-In p q [] (there _ _ m) = inr m
inserted-In p q (r ∷ ps) m =
    cond_both (is_before r.stream p.stream) (r ∷ inserted p ps) (p ∷ r ∷ ps) (λ (xs : List Passed). In q xs → (q ≡ p) ⊎ In q (r ∷ ps))
    (λ _ i. later i (λ j. inserted-In p q ps j)) (λ _ i. first i) m
  where
    first : In q (p ∷ r ∷ ps) → (q ≡ p) ⊎ In q (r ∷ ps)
    first (here _ _ e) = inl e
    first (there _ _ i) = inr i

    later : In q (r ∷ inserted p ps) → (In q (inserted p ps) → (q ≡ p) ⊎ In q ps) → (q ≡ p) ⊎ In q (r ∷ ps)
    later (here _ _ e) go = inr (here r ps e)
    later (there _ _ i) go = elim (go i) [ inl same ↦ inl same | inr older ↦ inr (there r ps older) ]

-- each pass of the sorted list is one of the passes
pub sorted-In : (q : Passed) (ps : List Passed) → In q (in_stream_order ps) → In q ps
unfolding in_stream_order
sorted-In q [] m = m
sorted-In q (p ∷ ps) m =
    elim (inserted-In p q (in_stream_order ps) m) [ inl same ↦ here p ps same | inr older ↦ there p ps (sorted-In q ps older) ]

inserted-Apart : (p : Passed) (ps : List Passed) → IsNew p ps → Apart ps → Apart (inserted p ps)
unfolding inserted Apart
inserted-Apart p [] new apart = (new, apart)
inserted-Apart p (r ∷ ps) new apart =
    cond_both (is_before r.stream p.stream) (r ∷ inserted p ps) (p ∷ r ∷ ps) (λ (xs : List Passed). Apart xs)
    (λ _. ((λ q i. elim (inserted-In p q ps i) [ inl same ↦ (λ e. new r (here r ps refl) (sym (e ∙ ap (λ (x : Passed). x.stream) same))) | inr older ↦ apart.0 q older ]), inserted-Apart p ps (λ q i. new q (there r ps i)) apart.1))
    (λ _. (new, apart))

-- if no two passes are of one stream, then so it is once they are sorted
pub sorted-Apart : (ps : List Passed) → Apart ps → Apart (in_stream_order ps)
unfolding in_stream_order Apart
sorted-Apart [] apart = tt
sorted-Apart (p ∷ ps) apart = inserted-Apart p (in_stream_order ps) (λ q i. apart.0 q (sorted-In q ps i)) (sorted-Apart ps apart.1)

inserted-advanced : (m : Node) (p : Passed) (ps : List Passed) → IsNew p ps → all_advanced m (inserted p ps) ≡ all_advanced (advanced m p) ps
unfolding inserted all_advanced
inserted-advanced m p [] new = refl
inserted-advanced m p (r ∷ ps) new =
    cond_both (is_before r.stream p.stream) (r ∷ inserted p ps) (p ∷ r ∷ ps) (λ (xs : List Passed). all_advanced m xs ≡ all_advanced (advanced (advanced m p) r) ps)
    (λ _.
    inserted-advanced (advanced m r) p ps (λ q i. new q (there r ps i))
    ∙ ap (λ (x : Node). all_advanced x ps) (advanced-swap m r p (λ e. new r (here r ps refl) (sym e))))
    (λ _. refl)

-- the node becomes the same
pub sorted-advanced : (m : Node) (ps : List Passed) → Apart ps → all_advanced m (in_stream_order ps) ≡ all_advanced m ps
unfolding in_stream_order all_advanced Apart
sorted-advanced m [] apart = refl
sorted-advanced m (p ∷ ps) apart =
    inserted-advanced m p (in_stream_order ps) (λ q i. apart.0 q (sorted-In q ps i)) ∙ sorted-advanced (advanced m p) ps apart.1

-- to let passes advance, and then others, is to let both lists advance in one
pub all_advanced-append : (m : Node) (ps qs : List Passed) → all_advanced m (ps ++ qs) ≡ all_advanced (all_advanced m ps) qs
unfolding all_advanced
all_advanced-append m [] qs = refl
all_advanced-append m (p ∷ ps) qs = all_advanced-append (advanced m p) ps qs

-- if two lists of passes have no stream twice and none in common, then no two passes of both are of one stream
pub Apart-append : (ps qs : List Passed) → Apart ps → Apart qs → ((p : Passed) → In p ps → IsNew p qs) → Apart (ps ++ qs)
unfolding Apart
Apart-append [] qs a b h = b
Apart-append (p ∷ ps) qs a b h =
    ((λ q i. elim (In-append q ps qs i) [ inl l ↦ a.0 q l | inr r ↦ h p (here p ps refl) q r ]), Apart-append ps qs a.1 b (λ r i. h r (there p ps i)))
