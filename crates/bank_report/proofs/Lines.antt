-- The lines of accounts, one after another.
use Rattle.std.proofs.Common.{ℕ, zero, suc, ◌≡◌, ◌+◌, ◌-◌, ◌<◌, ◌≤◌, List, [], ◌++◌, refl, sym, ap, ◌∙◌, arith, append_assoc}
use Rattle.zeus_txn.specs.declared.map.Versioned.{Versioned}
use Rattle.bank_report.specs.Report.{account_line, account_lines}

lines_next : (m : List Versioned) (a n k : ℕ) → n ≡ suc k → account_lines m a n ≡ account_line m a ++ account_lines m (suc a) k
unfolding account_lines
lines_next m a zero k e = absurd (omega arith)
lines_next m a (suc n) k e = let same : n ≡ k = omega arith in ap (λ j. account_line m a ++ account_lines m (suc a) j) same

-- so far and the rest: the rest begins with the next account
pub lines_more : (m : List Versioned) (before : List ℕ) (a n : ℕ) → a < n
    → (before ++ account_line m a) ++ account_lines m (a + 1) (n - (a + 1)) ≡ before ++ account_lines m a (n - a)
lines_more m before a n h =
    let one : a + 1 ≡ suc a = omega arith in
    let next = lines_next m a (n - a) (n - suc a) (omega arith) in
    rw one (append_assoc before (account_line m a) (account_lines m (suc a) (n - suc a)) ∙ ap (λ (ls : List ℕ). before ++ ls) (sym next))

-- if a place is past the last account, then no lines of accounts are left
pub lines-none : (m : List Versioned) (a n : ℕ) → n ≤ a → account_lines m a (n - a) ≡ []
unfolding account_lines
lines-none m a n h = let none : n - a ≡ 0 = omega arith in rw none refl
