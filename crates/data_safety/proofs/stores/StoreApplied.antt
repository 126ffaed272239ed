-- What a follower's copies are after it has taken writes.
use Rattle.std.specs.Prelude.{ℕ, ◌≡◌, ◌≢◌, ◌<◌, ◌≤◌, List, [], ◌∷◌, Option, Some, None, is_some, ◌⊎◌, nat_lt}
use Rattle.std.proofs.Common.{arith, refl, sym, ap, ◌∙◌, inl, inr, le_refl}
use Rattle.std.proofs.lemmas.Bool.{cases_Bool}
use Rattle.std.proofs.lemmas.Bool.Decides.{nat_tests}
use Rattle.zeus_base.specs.TableLaws.{nth-put_same, nth-put_other}
use Rattle.zeus_packet.specs.declared.letter.State.TheVariants.{Invalid}
use Rattle.zeus_packet.specs.declared.write.Write.{Write}
use Rattle.zeus_model.specs.In.{In, here, there}
use Rattle.zeus_model.specs.Tables.{nth, put}
use Rattle.zeus_model.specs.Commit.{applied, each_write}
use Rattle.zeus_model.specs.declared.state.Copy.{Copy}
use Rattle.invariants.proofs.ObjectSeen.{same_or_not}

-- a copy is a newer one of the writes, and not valid
pub record IsTaken (ws : List Write) (x : ℕ) (before now : Copy) : Type 0 where
  pub newer : before.ver < now.ver
  pub state : now.state ≡ Invalid
  pub written : In record { obj = x; ver = now.ver; value = now.value } ws

-- a copy is as before or taken, and not below any write of the object
pub record Took (ws : List Write) (x : ℕ) (before now : Copy) : Type 0 where
  pub how : (now ≡ before) ⊎ IsTaken ws x before now
  pub rises : before.ver ≤ now.ver
  pub bound : (w : Write) → In w ws → w.obj ≡ x → w.ver ≤ now.ver

some_same : (a b : Copy) → ◌≡◌ {A = Option Copy} (Some a) (Some b) → a ≡ b
some_same a b e = cc

applied-one : (w : Write) (x : ℕ) (o : Option Copy) (c : Copy) → w.obj ≡ x → applied w o ≡ Some c → (b : Copy) × (o ≡ Some b) × Took (w ∷ []) x b c
unfolding applied
applied-one w x None c at h = absurd cc
applied-one w x (Some b) c at h = elim (cases_Bool (nat_lt b.ver w.ver)) [
  | inl below ↦
      let now : record { value = w.value; ver = w.ver; state = Invalid } ≡ c = some_same record { value = w.value; ver = w.ver; state = Invalid } c (rw below at h) in
      let less : b.ver < w.ver = grind (arith, nat_tests) in (
        b,
        refl,
        rw (← now) record {
          how = inr record { newer = less; state = refl; written = here w [] (rw (← at) refl) };
          rises = omega (arith, less);
          bound = λ v i is. one_bound v i;
        },
      )
  | inr above ↦
      let same : b ≡ c = some_same b c (rw above at h) in
      let low : w.ver ≤ b.ver = grind (arith, nat_tests) in
      (b, refl, rw (← same) record { how = inl refl; rises = le_refl b.ver; bound = λ v i is. low_bound v i low })
]
  where
    one_bound : (v : Write) → In v (w ∷ []) → v.ver ≤ w.ver
    one_bound v (here _ _ e) = omega (arith, ap (λ (k : Write). k.ver) e)
    one_bound v (there _ _ i) = elim i [ ]

    low_bound : (v : Write) → In v (w ∷ []) → w.ver ≤ b.ver → v.ver ≤ b.ver
    low_bound v (here _ _ e) low = omega (arith, low, ap (λ (k : Write). k.ver) e)
    low_bound v (there _ _ i) low = elim i [ ]

then_took : (w : Write) (ws : List Write) (x : ℕ) (a b c : Copy) → Took (w ∷ []) x a b → Took ws x b c → Took (w ∷ ws) x a c
then_took w ws x a b c first second = record {
  how = by first.how second.how;
  rises = omega (arith, first.rises, second.rises);
  bound = bounds;
}
  where
    front : In record { obj = x; ver = b.ver; value = b.value } (w ∷ []) → In record { obj = x; ver = b.ver; value = b.value } (w ∷ ws)
    front (here _ _ e) = here w ws e
    front (there _ _ i) = elim i [ ]

    by : (b ≡ a) ⊎ IsTaken (w ∷ []) x a b → (c ≡ b) ⊎ IsTaken ws x b c → (c ≡ a) ⊎ IsTaken (w ∷ ws) x a c
    by (inl e) (inl g) = inl (g ∙ e)
    by (inr t) (inl g) = inr (rw g record { newer = t.newer; state = t.state; written = front t.written })
    by e (inr t) = inr record { newer = omega (arith, first.rises, t.newer); state = t.state; written = there w ws t.written }

    bounds : (v : Write) → In v (w ∷ ws) → v.obj ≡ x → v.ver ≤ c.ver
    bounds v (here _ _ e) is = omega (arith, first.bound v (here w [] e) is, second.rises)
    bounds v (there _ _ i) is = second.bound v i is

-- of a write of another object nothing is taken
none_took : (w : Write) (x : ℕ) (b : Copy) → w.obj ≢ x → Took (w ∷ []) x b b
none_took w x b other = record { how = inl refl; rises = le_refl b.ver; bound = none }
  where
    none : (v : Write) → In v (w ∷ []) → v.obj ≡ x → v.ver ≤ b.ver
    none v (here _ _ e) is = absurd (other (sym (ap (λ (k : Write). k.obj) e) ∙ is))
    none v (there _ _ i) is = elim i [ ]

-- if an object has a copy after a follower took writes, then it had one before, left as it was or overwritten by a newer one
pub applied-took : (copies : List (Option Copy)) (ws : List Write) (x : ℕ) (c : Copy) → nth None (each_write applied copies ws) x ≡ Some c
    → (b : Copy) × (nth None copies x ≡ Some b) × Took ws x b c
unfolding each_write
applied-took copies [] x c h = (c, h, record { how = inl refl; rises = le_refl c.ver; bound = λ w i. elim i [ ] })
applied-took copies (w ∷ ws) x c h =
    let after : List (Option Copy) = put None copies w.obj (applied w (nth None copies w.obj)) in
    let rest = applied-took after ws x c h in
    elim (same_or_not w.obj x) [
      | inl same ↦
          let put_here : nth None after w.obj ≡ applied w (nth None copies w.obj) = nth-put_same None copies w.obj (applied w (nth None copies w.obj)) in
          let here_now : applied w (nth None copies w.obj) ≡ Some rest.0 = sym put_here ∙ ap (λ (k : ℕ). nth None after k) same ∙ rest.1 in
          let one = applied-one w x (nth None copies w.obj) rest.0 same here_now in
          (one.0, ap (λ (k : ℕ). nth None copies k) (sym same) ∙ one.1, then_took w ws x one.0 rest.0 c one.2 rest.2)
      | inr other ↦
          let stays : nth None after x ≡ nth None copies x = nth-put_other None copies w.obj x (applied w (nth None copies w.obj)) other in
          (rest.0, sym stays ∙ rest.1, then_took w ws x rest.0 rest.0 c (none_took w x rest.0 other) rest.2)
    ]

applied-is_some : (w : Write) (o : Option Copy) → is_some (applied w o) ≡ is_some o
unfolding applied
applied-is_some w None = refl
applied-is_some w (Some c) = elim (cases_Bool (nat_lt c.ver w.ver)) [ inl same ↦ rw same refl | inr other ↦ rw other refl ]

-- a follower that takes writes neither gets a copy nor loses one
pub applied-some : (copies : List (Option Copy)) (ws : List Write) (x : ℕ) → is_some (nth None (each_write applied copies ws) x) ≡ is_some (nth None copies x)
unfolding each_write
applied-some copies [] x = refl
applied-some copies (w ∷ ws) x =
    let after : List (Option Copy) = put None copies w.obj (applied w (nth None copies w.obj)) in
    let rest : is_some (nth None (each_write applied after ws) x) ≡ is_some (nth None after x) = applied-some after ws x in
    elim (same_or_not w.obj x) [
      | inl same ↦
          let put_here : nth None after w.obj ≡ applied w (nth None copies w.obj) = nth-put_same None copies w.obj (applied w (nth None copies w.obj)) in
          rest ∙ ap (λ (k : ℕ). is_some (nth None after k)) (sym same) ∙ ap (λ (o : Option Copy). is_some o) put_here
          ∙ applied-is_some w (nth None copies w.obj) ∙ ap (λ (k : ℕ). is_some (nth None copies k)) same
      | inr other ↦ rest ∙ ap (λ (o : Option Copy). is_some o) (nth-put_other None copies w.obj x (applied w (nth None copies w.obj)) other)
    ]
