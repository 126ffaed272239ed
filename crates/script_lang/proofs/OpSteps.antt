-- The operations of a transaction, from one to the next.
use Rattle.std.proofs.Common.{◌≡◌, ℕ, zero, suc, ◌-◌, Bool, true, false, cond, List, [], ◌∷◌, ◌++◌, length, Result, Ok, Err, refl, sym, ap, ◌∙◌, arith, length-append}
use Rattle.std.specs.Prelude.{codes}
use Rattle.std.specs.Str.{bytes_eq}
use Rattle.zeus_txn.specs.declared.ops.Op.{Op}
use Rattle.zeus_model.specs.declared.fault.Kind.{Kind}
use Rattle.zeus_model.specs.declared.fault.Kind.TheVariants.{Word}
use Rattle.script_lang.specs.Operations.{op_at, ops_after}
use Rattle.script_lang.specs.Reads.{word_at, keyword_at}
use Rattle.script_lang.proofs.DraftSound.{keyword_at-sound}
use Rattle.script_lang.proofs.Sound.{read_is}

-- the words behind a semicolon
semicolon : (parts ws : List (List ℕ)) → keyword_at (codes ";") parts ≡ Ok (tt, ws) → parts ≡ codes ";" ∷ ws
semicolon parts ws read = read_is (keyword_at (codes ";") parts) (tt, ws) (λ x. parts ≡ codes ";" ∷ x.1) read (keyword_at-sound (codes ";") parts)

module _ (version : ℕ) (names : List (List ℕ)) (before : List Op) (parts : List (List ℕ)) (total : Result (List Op) Kind) where
  pub ops_next : (room : ℕ) (ws rest : List (List ℕ)) (op : Op) → ops_after version names (suc room) before parts ≡ total → keyword_at (codes ";") parts ≡ Ok (tt, ws) → op_at version names before ws ≡ Ok (op, rest) → ops_after version names room (before ++ op ∷ []) rest ≡ total
  unfolding ops_after
  ops_next room ws rest op so_far semi next =
      let here : ops_after version names (suc room) before (codes ";" ∷ ws) ≡ ops_after version names room (before ++ op ∷ []) rest = rw next refl in
      sym here ∙ ap (ops_after version names (suc room) before) (sym (semicolon parts ws semi)) ∙ so_far

  pub ops_fail : (room : ℕ) (ws : List (List ℕ)) (k : Kind) → ops_after version names room before parts ≡ total → keyword_at (codes ";") parts ≡ Ok (tt, ws) → op_at version names before ws ≡ Err k → Err k ≡ total
  unfolding ops_after
  ops_fail zero ws k so_far semi next =
      let here : ops_after version names zero before (codes ";" ∷ ws) ≡ Err k = rw next refl in
      sym here ∙ ap (ops_after version names zero before) (sym (semicolon parts ws semi)) ∙ so_far
  ops_fail (suc room) ws k so_far semi next =
      let here : ops_after version names (suc room) before (codes ";" ∷ ws) ≡ Err k = rw next refl in
      sym here ∙ ap (ops_after version names (suc room) before) (sym (semicolon parts ws semi)) ∙ so_far

  pub ops_end : (room : ℕ) → ops_after version names room before parts ≡ total → parts ≡ [] → Ok before ≡ total
  unfolding ops_after
  ops_end zero so_far is = ap (ops_after version names zero before) (sym is) ∙ so_far
  ops_end (suc room) so_far is = ap (ops_after version names (suc room) before) (sym is) ∙ so_far

-- another word than a semicolon
pub ops_no_semicolon : (version : ℕ) (names : List (List ℕ)) (before : List Op) (parts : List (List ℕ)) (total : Result (List Op) Kind) (room : ℕ) (k : Kind) → ops_after version names room before parts ≡ total → (parts ≡ [] → ⊥) → keyword_at (codes ";") parts ≡ Err k → Err k ≡ total
unfolding keyword_at word_at ops_after
ops_no_semicolon version names before [] total room k so_far some other = absurd (some refl)
ops_no_semicolon version names before (w ∷ ws) total room k so_far some other = go room (bytes_eq w (codes ";")) refl so_far other
  where
    go : (room : ℕ) (b : Bool) → bytes_eq w (codes ";") ≡ b → ops_after version names room before (w ∷ ws) ≡ total → cond {A = Result (Unit {0} × List (List ℕ)) Kind} b (Ok (tt, ws)) (Err Word) ≡ Err k → Err k ≡ total
    go room true e f g = absurd cc
    go zero false e f g = let same : Word ≡ k = cc in let told : Err Word ≡ total = rw e at f in rw same at told
    go (suc room) false e f g = let same : Word ≡ k = cc in let told : Err Word ≡ total = rw e at f in rw same at told

-- one more operation takes one place
pub less_room : (before : List Op) (op : Op) → 16 - length (before ++ op ∷ []) ≡ (16 - length before) - 1
less_room before op = omega (arith, length-append before (op ∷ []))
