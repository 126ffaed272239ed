-- The objects of accounts, one account after another.
use Rattle.std.proofs.Common.{ℕ, zero, suc, ◌≡◌, ◌+◌, ◌-◌, ◌<◌, ◌≤◌, List, [], ◌∷◌, ◌++◌, refl, sym, ap, ◌∙◌, arith, append_assoc}
use Rattle.zeus_base.specs.declared.config.ObjectDecl.{ObjectDecl}
use Rattle.bank_ledger.specs.Bank.{bank_object, objects_from}

objects_next : (a n k : ℕ) → n ≡ suc k → objects_from a n ≡ bank_object a ∷ bank_object a ∷ objects_from (suc a) k
unfolding objects_from
objects_next a zero k e = absurd (omega arith)
objects_next a (suc n) k e = let same : n ≡ k = omega arith in ap (λ j. bank_object a ∷ bank_object a ∷ objects_from (suc a) j) same

-- so far and the rest: the rest begins with the two objects of the next account
pub objects_more : (before : List ObjectDecl) (a n : ℕ) → a < n
    → ((before ++ bank_object a ∷ []) ++ bank_object a ∷ []) ++ objects_from (a + 1) (n - (a + 1)) ≡ before ++ objects_from a (n - a)
objects_more before a n h =
    let one : a + 1 ≡ suc a = omega arith in
    let next = objects_next a (n - a) (n - suc a) (omega arith) in
    let rest = objects_from (suc a) (n - suc a) in
    rw one
    (append_assoc (before ++ bank_object a ∷ []) (bank_object a ∷ []) rest
    ∙ append_assoc before (bank_object a ∷ []) (bank_object a ∷ rest)
    ∙ ap (λ (os : List ObjectDecl). before ++ os) (sym next))

-- past the last account no object is left
pub objects-none : (a n : ℕ) → n ≤ a → objects_from a (n - a) ≡ []
unfolding objects_from
objects-none a n h = let none : n - a ≡ 0 = omega arith in rw none refl
