-- What validation does to copies: states alone change, and only where a write has the copy's version.
use Rattle.std.specs.Prelude.{ℕ, ◌≡◌, ◌==◌, List, [], ◌∷◌, Option, Some, None, is_some, ◌⊎◌}
use Rattle.std.proofs.Common.{refl, sym, ap, ◌∙◌, inl, inr}
use Rattle.std.proofs.lemmas.Bool.{cases_Bool, eqb-true}
use Rattle.zeus_base.specs.TableLaws.{nth-put_same, nth-put_other}
use Rattle.zeus_packet.specs.declared.letter.State.TheVariants.{Valid}
use Rattle.zeus_packet.specs.declared.write.Write.{Write}
use Rattle.zeus_model.specs.In.{In, here, there}
use Rattle.zeus_model.specs.Tables.{nth, put}
use Rattle.zeus_model.specs.Commit.{validated, each_write}
use Rattle.zeus_model.specs.declared.state.Copy.{Copy}
use Rattle.invariants.proofs.ObjectSeen.{same_or_not}
use Rattle.data_safety.specs.DataInvariant.{content_of}

-- one of the writes is of this object and has this version
abbrev pub Writes : List Write → ℕ → ℕ → Type 0
Writes ws x ver = (w : Write) × In w ws × (w.obj ≡ x) × (w.ver ≡ ver)

-- a copy has its content from before, and its state too, but for one whose version is that of a write
pub record Was (ws : List Write) (x : ℕ) (before now : Copy) : Type 0 where
  pub content : content_of now ≡ content_of before
  pub how : (now ≡ before) ⊎ Writes ws x now.ver

some_same : (a b : Copy) → ◌≡◌ {A = Option Copy} (Some a) (Some b) → a ≡ b
some_same a b e = cc

validated-one : (w : Write) (ws : List Write) (x : ℕ) (o : Option Copy) (c : Copy) → w.obj ≡ x → validated w o ≡ Some c → (b : Copy) × (o ≡ Some b) × Was (w ∷ ws) x b c
unfolding validated
validated-one w ws x None c at h = absurd cc
validated-one w ws x (Some b) c at h = elim (cases_Bool (b.ver == w.ver)) [
  | inl same ↦
      let now : record b { state = Valid } ≡ c = some_same (record b { state = Valid }) c (rw same at h) in (
        b,
        refl,
        record {
          content = ap content_of (sym now);
          how = inr (w, here w ws refl, at, sym (eqb-true b.ver w.ver same) ∙ ap (λ (k : Copy). k.ver) now);
        },
      )
  | inr other ↦ (b, refl, record { content = ap content_of (sym (some_same b c (rw other at h))); how = inl (sym (some_same b c (rw other at h))) })
]

then_was : (w : Write) (ws : List Write) (x : ℕ) (a b c : Copy) → Was (w ∷ ws) x a b → Was ws x b c → Was (w ∷ ws) x a c
then_was w ws x a b c first second = record { content = second.content ∙ first.content; how = by first.how second.how }
  where
    by : (b ≡ a) ⊎ Writes (w ∷ ws) x b.ver → (c ≡ b) ⊎ Writes ws x c.ver → (c ≡ a) ⊎ Writes (w ∷ ws) x c.ver
    by (inl e) (inl g) = inl (g ∙ e)
    by (inr k) (inl g) = inr (k.0, k.1, k.2, k.3 ∙ ap (λ (d : Copy). d.ver) (sym g))
    by e (inr k) = inr (k.0, there w ws k.1, k.2, k.3)

-- if an object has a copy after a validation, then it had one before, with the same content
pub validated-was : (copies : List (Option Copy)) (ws : List Write) (x : ℕ) (c : Copy) → nth None (each_write validated copies ws) x ≡ Some c
    → (b : Copy) × (nth None copies x ≡ Some b) × Was ws x b c
unfolding each_write
validated-was copies [] x c h = (c, h, record { content = refl; how = inl refl })
validated-was copies (w ∷ ws) x c h =
    let after : List (Option Copy) = put None copies w.obj (validated w (nth None copies w.obj)) in
    let rest = validated-was after ws x c h in
    elim (same_or_not w.obj x) [
      | inl same ↦
          let put_here : nth None after w.obj ≡ validated w (nth None copies w.obj) = nth-put_same None copies w.obj (validated w (nth None copies w.obj)) in
          let here_now : validated w (nth None copies w.obj) ≡ Some rest.0 = sym put_here ∙ ap (λ (k : ℕ). nth None after k) same ∙ rest.1 in
          let one = validated-one w ws x (nth None copies w.obj) rest.0 same here_now in
          (one.0, ap (λ (k : ℕ). nth None copies k) (sym same) ∙ one.1, then_was w ws x one.0 rest.0 c one.2 rest.2)
      | inr other ↦
          let stays : nth None after x ≡ nth None copies x = nth-put_other None copies w.obj x (validated w (nth None copies w.obj)) other in
          (rest.0, sym stays ∙ rest.1, then_was w ws x rest.0 rest.0 c record { content = refl; how = inl refl } rest.2)
    ]

validated-is_some : (w : Write) (o : Option Copy) → is_some (validated w o) ≡ is_some o
unfolding validated
validated-is_some w None = refl
validated-is_some w (Some c) = elim (cases_Bool (c.ver == w.ver)) [ inl same ↦ rw same refl | inr other ↦ rw other refl ]

-- a validation neither brings a copy nor takes one away
pub validated-some : (copies : List (Option Copy)) (ws : List Write) (x : ℕ) → is_some (nth None (each_write validated copies ws) x) ≡ is_some (nth None copies x)
unfolding each_write
validated-some copies [] x = refl
validated-some copies (w ∷ ws) x =
    let after : List (Option Copy) = put None copies w.obj (validated w (nth None copies w.obj)) in
    let rest : is_some (nth None (each_write validated after ws) x) ≡ is_some (nth None after x) = validated-some after ws x in
    elim (same_or_not w.obj x) [
      | inl same ↦
          let put_here : nth None after w.obj ≡ validated w (nth None copies w.obj) = nth-put_same None copies w.obj (validated w (nth None copies w.obj)) in
          rest ∙ ap (λ (k : ℕ). is_some (nth None after k)) (sym same) ∙ ap (λ (o : Option Copy). is_some o) put_here
          ∙ validated-is_some w (nth None copies w.obj) ∙ ap (λ (k : ℕ). is_some (nth None copies k)) same
      | inr other ↦ rest ∙ ap (λ (o : Option Copy). is_some o) (nth-put_other None copies w.obj x (validated w (nth None copies w.obj)) other)
    ]
