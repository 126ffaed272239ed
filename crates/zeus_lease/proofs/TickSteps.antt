-- The numbers of a pass, from one word to the next.
use Rattle.std.proofs.Common.{◌≡◌, ℕ, suc, ◌+◌, ◌-◌, ◌<◌, ◌≤◌, ◌^◌, List, [], ◌∷◌, ◌++◌, Result, Ok, Err, refl, sym, ap, ◌∙◌, arith}
use Rattle.zeus_model.specs.declared.fault.Kind.{Kind}
use Rattle.script_lang.specs.Numbers.{range_at}
use Rattle.zeus_lease.specs.Reading.{ticks_after}

module _ (count i : ℕ) (before : List ℕ) (ws : List (List ℕ)) (total : Result (List ℕ × List (List ℕ)) Kind) (so_far : ticks_after (count - i) before ws ≡ total) where
  one_more : i < count → total ≡ ticks_after (suc (count - (i + 1))) before ws
  one_more lt =
      let more : count - i ≡ suc (count - (i + 1)) = omega arith in
      sym so_far ∙ ap (λ (n : ℕ). ticks_after n before ws) more

  pub ticks_next : (t : ℕ) (rest : List (List ℕ)) → i < count → range_at 0 (2 ^ 32) ws ≡ Ok (t, rest) → ticks_after (count - (i + 1)) (before ++ t ∷ []) rest ≡ total
  unfolding ticks_after
  ticks_next t rest lt read = sym (one_more lt ∙ rw read refl)

  pub ticks_fail : (k : Kind) → i < count → range_at 0 (2 ^ 32) ws ≡ Err k → total ≡ Err k
  unfolding ticks_after
  ticks_fail k lt read = one_more lt ∙ rw read refl

  pub ticks_end : count ≤ i → total ≡ Ok (before, ws)
  unfolding ticks_after
  ticks_end le =
      let none : count - i ≡ 0 = omega arith in
      sym so_far ∙ ap (λ (n : ℕ). ticks_after n before ws) none
