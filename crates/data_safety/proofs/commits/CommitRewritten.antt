-- What the own copies are after a commit.
use Rattle.std.specs.Prelude.{ℕ, ◌≡◌, ◌≢◌, List, [], ◌∷◌, Option, Some, None, is_some, ◌⊎◌}
use Rattle.std.proofs.Common.{refl, sym, ap, ◌∙◌, inl, inr}
use Rattle.zeus_base.specs.TableLaws.{nth-put_same, nth-put_other}
use Rattle.zeus_packet.specs.declared.letter.State.TheVariants.{Write}
use Rattle.zeus_packet.specs.declared.write.Write.{Write as WriteOf}
use Rattle.zeus_model.specs.In.{In, here, there}
use Rattle.zeus_model.specs.Tables.{nth, put}
use Rattle.zeus_model.specs.Commit.{each_write}
use Rattle.zeus_model.specs.Local.{rewritten_copy}
use Rattle.zeus_model.specs.declared.state.Copy.{Copy}
use Rattle.invariants.proofs.ObjectSeen.{same_or_not}

-- the copy that a write makes at its owner
abbrev pub written_copy : WriteOf → Copy
written_copy w = record { value = w.value; ver = w.ver; state = Write }

-- a copy is as before where its object is not written, else that of a write
abbrev pub Rewritten : List WriteOf → ℕ → Copy → Copy → Type 0
Rewritten ws x before now =
    ((now ≡ before) × ((w : WriteOf) → In w ws → w.obj ≢ x)) ⊎ ((w : WriteOf) × In w ws × (w.obj ≡ x) × (now ≡ written_copy w))

some_same : (a b : Copy) → ◌≡◌ {A = Option Copy} (Some a) (Some b) → a ≡ b
some_same a b e = cc

rewritten-one : (w : WriteOf) (o : Option Copy) (c : Copy) → rewritten_copy w o ≡ Some c → (b : Copy) × (o ≡ Some b) × (c ≡ written_copy w)
unfolding rewritten_copy
rewritten-one w None c h = absurd cc
rewritten-one w (Some b) c h = (b, refl, sym (some_same (written_copy w) c h))

then_here : (w : WriteOf) (ws : List WriteOf) (x : ℕ) (a b c : Copy) → w.obj ≡ x → b ≡ written_copy w → Rewritten ws x b c → Rewritten (w ∷ ws) x a c
then_here w ws x a b c at is (inl rest) = inr (w, here w ws refl, at, rest.0 ∙ is)
then_here w ws x a b c at is (inr rest) = inr (rest.0, there w ws rest.1, rest.2, rest.3)

then_away : (w : WriteOf) (ws : List WriteOf) (x : ℕ) (b c : Copy) → w.obj ≢ x → Rewritten ws x b c → Rewritten (w ∷ ws) x b c
then_away w ws x b c other (inl rest) = inl (rest.0, none rest.1)
  where
    none : ((v : WriteOf) → In v ws → v.obj ≢ x) → (v : WriteOf) → In v (w ∷ ws) → v.obj ≢ x
    none more v (here _ _ e) = λ is. other (sym (ap (λ (k : WriteOf). k.obj) e) ∙ is)
    none more v (there _ _ i) = more v i
then_away w ws x b c other (inr rest) = inr (rest.0, there w ws rest.1, rest.2, rest.3)

-- if an object has a copy after writes at its owner, then it had one before, left as it was or made by a write
pub rewritten-was : (copies : List (Option Copy)) (ws : List WriteOf) (x : ℕ) (c : Copy) → nth None (each_write rewritten_copy copies ws) x ≡ Some c
    → (b : Copy) × (nth None copies x ≡ Some b) × Rewritten ws x b c
unfolding each_write
rewritten-was copies [] x c h = (c, h, inl (refl, λ w i. elim i [ ]))
rewritten-was copies (w ∷ ws) x c h =
    let after : List (Option Copy) = put None copies w.obj (rewritten_copy w (nth None copies w.obj)) in
    let rest = rewritten-was after ws x c h in
    elim (same_or_not w.obj x) [
      | inl same ↦
          let put_here : nth None after w.obj ≡ rewritten_copy w (nth None copies w.obj) = nth-put_same None copies w.obj (rewritten_copy w (nth None copies w.obj)) in
          let here_now : rewritten_copy w (nth None copies w.obj) ≡ Some rest.0 = sym put_here ∙ ap (λ (k : ℕ). nth None after k) same ∙ rest.1 in
          let one = rewritten-one w (nth None copies w.obj) rest.0 here_now in
          (one.0, ap (λ (k : ℕ). nth None copies k) (sym same) ∙ one.1, then_here w ws x one.0 rest.0 c same one.2 rest.2)
      | inr other ↦
          let stays : nth None after x ≡ nth None copies x = nth-put_other None copies w.obj x (rewritten_copy w (nth None copies w.obj)) other in
          (rest.0, sym stays ∙ rest.1, then_away w ws x rest.0 c other rest.2)
    ]

rewritten-is_some : (w : WriteOf) (o : Option Copy) → is_some (rewritten_copy w o) ≡ is_some o
unfolding rewritten_copy
rewritten-is_some w None = refl
rewritten-is_some w (Some c) = refl

-- writes at an owner neither bring a copy nor take one away
pub rewritten-some : (copies : List (Option Copy)) (ws : List WriteOf) (x : ℕ) → is_some (nth None (each_write rewritten_copy copies ws) x) ≡ is_some (nth None copies x)
unfolding each_write
rewritten-some copies [] x = refl
rewritten-some copies (w ∷ ws) x =
    let after : List (Option Copy) = put None copies w.obj (rewritten_copy w (nth None copies w.obj)) in
    let rest : is_some (nth None (each_write rewritten_copy after ws) x) ≡ is_some (nth None after x) = rewritten-some after ws x in
    elim (same_or_not w.obj x) [
      | inl same ↦
          let put_here : nth None after w.obj ≡ rewritten_copy w (nth None copies w.obj) = nth-put_same None copies w.obj (rewritten_copy w (nth None copies w.obj)) in
          rest ∙ ap (λ (k : ℕ). is_some (nth None after k)) (sym same) ∙ ap (λ (o : Option Copy). is_some o) put_here
          ∙ rewritten-is_some w (nth None copies w.obj) ∙ ap (λ (k : ℕ). is_some (nth None copies k)) same
      | inr other ↦ rest ∙ ap (λ (o : Option Copy). is_some o) (nth-put_other None copies w.obj x (rewritten_copy w (nth None copies w.obj)) other)
    ]
