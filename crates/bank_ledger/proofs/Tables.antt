-- Tables of values and of numbers, side by side.
use Rattle.std.proofs.Common.{ℕ, zero, suc, ◌≡◌, ◌+◌, ◌<◌, ◌≤◌, List, [], ◌∷◌, length, map, refl, sym, ap, ◌∙◌, arith}
use Rattle.zeus_base.specs.Tables.{nth, put}
use Rattle.zeus_base.specs.declared.value.Value.{Value}
use Rattle.zeus_base.specs.declared.value.Value.TheVariants.{Num}
use Rattle.zeus_txn.specs.Map.{content, no_content}
use Rattle.zeus_txn.specs.declared.map.Versioned.{Versioned}
use Rattle.bank_ledger.specs.Bank.{value_of}
use Rattle.bank_ledger.specs.Balances.{balance}

map-put : {A B : Type 0} (f : A → B) (d : A) (xs : List A) (i : ℕ) (v : A) → map f (put d xs i v) ≡ put (f d) (map f xs) i (f v)
unfolding put
map-put f d [] zero v = refl
map-put f d [] (suc i) v = ap (λ l. f d ∷ l) (map-put f d [] i v)
map-put f d (x ∷ xs) zero v = refl
map-put f d (x ∷ xs) (suc i) v = ap (λ l. f x ∷ l) (map-put f d xs i v)

nth-mapped : {A B : Type 0} (f : A → B) (d : A) (xs : List A) (i : ℕ) → nth (f d) (map f xs) i ≡ f (nth d xs i)
unfolding nth
nth-mapped f d [] i = refl
nth-mapped f d (x ∷ xs) zero = refl
nth-mapped f d (x ∷ xs) (suc i) = nth-mapped f d xs i

-- of two writes at one index the second alone is seen
pub put-put : {A : Type 0} (d : A) (xs : List A) (i : ℕ) (u v : A) → put d (put d xs i u) i v ≡ put d xs i v
unfolding put
put-put d [] zero u v = refl
put-put d [] (suc i) u v = ap (λ l. d ∷ l) (put-put d [] i u v)
put-put d (x ∷ xs) zero u v = refl
put-put d (x ∷ xs) (suc i) u v = ap (λ l. x ∷ l) (put-put d xs i u v)

-- the values of the map are these numbers
pub record Shows (m : List Versioned) (bs : List ℕ) : Type 0 where
  pub same : map value_of m ≡ map Num bs

-- if a map shows balances, then an object's value is the number of its balance
pub shown_balance : (m : List Versioned) (bs : List ℕ) (x : ℕ) → Shows m bs → (content m x).value ≡ Num (balance bs x)
shown_balance m bs x s = sym (nth-mapped value_of no_content m x) ∙ ap (λ (vs : List Value). nth (Num 0) vs x) s.same ∙ nth-mapped Num 0 bs x

-- if a map shows balances, then it still does after the same number is written to both
pub shown_put : (m : List Versioned) (bs : List ℕ) (x n k : ℕ) → Shows m bs → Shows (put no_content m x record { ver = k; value = Num n }) (put 0 bs x n)
shown_put m bs x n k s =
    record {
      same =
          map-put value_of no_content m x record { ver = k; value = Num n }
          ∙ ap (λ (vs : List Value). put (Num 0) vs x (Num n)) s.same
          ∙ sym (map-put Num 0 bs x n);
    }

-- ---- totals

-- all the money in balances
unfoldable pub total : List ℕ → ℕ
total [] = 0
total (b ∷ bs) = b + total bs

-- if a balance is set, then the total is as it was, without the old balance and with the new one
pub total-put : (bs : List ℕ) (x n : ℕ) → x < length bs → total (put 0 bs x n) + nth 0 bs x ≡ total bs + n
unfolding put nth total
total-put [] x n h = absurd (omega arith)
total-put (b ∷ bs) zero n h = omega arith
total-put (b ∷ bs) (suc x) n h = let rest = total-put bs x n (omega arith) in omega arith

-- no balance is above the total
pub nth-le_total : (bs : List ℕ) (x : ℕ) → nth 0 bs x ≤ total bs
unfolding nth total
nth-le_total [] x = omega arith
nth-le_total (b ∷ bs) zero = omega arith
nth-le_total (b ∷ bs) (suc x) = let rest = nth-le_total bs x in omega arith
