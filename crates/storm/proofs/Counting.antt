-- Counting on: the next number, and that no count is above the numbers counted.
use Rattle.std.proofs.Common.{ℕ, zero, suc, ◌≡◌, ◌+◌, ◌%◌, ◌^◌, ◌≤◌, Bool, true, false, List, add-one, arith, refl}
use Rattle.std.specs.Prelude.{if◌then◌else◌}
use Rattle.zeus_txn.specs.Map.{content}
use Rattle.zeus_txn.specs.declared.map.Versioned.{Versioned}
use Rattle.zeus_model.specs.Readers.{is_acked}
use Rattle.zeus_model.specs.World.{World}
use Rattle.storm.specs.Counts.{count, counted, has_failed, is_cut_off, is_refused, is_unfinished, number_of, summed}
use Rattle.storm.specs.declared.counts.TxCounts.{TxCounts}

-- the count of the first n + 1 numbers is that of the first n, and one more if the next one passes
pub count-next : (test : ℕ → Bool) (n : ℕ) → count test (n + 1) ≡ count test n + (if test n then 1 else 0)
unfolding count
count-next test n = rw add-one refl

one-few : (b : Bool) → (if b then 1 else 0) ≤ 1
one-few true = omega arith
one-few false = omega arith

-- of n numbers at most n pass
pub count-few : (test : ℕ → Bool) (n : ℕ) → count test n ≤ n
unfolding count
count-few test zero = omega arith
count-few test (suc n) = let rest = count-few test n in let one = one-few (test n) in omega arith

-- one more transaction is counted
pub counted-next : (w : World) (k : ℕ) (c : TxCounts) (a f r s u : ℕ) → c ≡ counted w k → a ≡ (if is_acked w k then 1 else 0) → f ≡ (if has_failed w k then 1 else 0)
    → r ≡ (if is_refused w k then 1 else 0) → s ≡ (if is_cut_off w k then 1 else 0) → u ≡ (if is_unfinished w k then 1 else 0)
    → record { acked = c.acked + a; failed = c.failed + f; refused = c.refused + r; stopped = c.stopped + s; unfinished = c.unfinished + u } ≡ counted w (k + 1)
counted-next w k c a f r s u is ea ef er es eu =
    rw (is, ea, ef, er, es, eu, count-next (is_acked w) k, count-next (has_failed w) k, count-next (is_refused w) k, count-next (is_cut_off w) k, count-next (is_unfinished w) k) refl

-- the sum of the first n + 1 objects is that of the first n, and the number of the next one
pub summed-next : (map : List Versioned) (n : ℕ) → summed map (n + 1) ≡ summed map n + number_of (content map n).value
unfolding summed
summed-next map n = rw add-one refl

-- a sum that wraps is the sum of all, modulo 2^64
pub wrapped-next : (map : List Versioned) (n s v r : ℕ) → s ≡ summed map n % 2 ^ 64 → v ≡ number_of (content map n).value → r ≡ (s + v) % 2 ^ 64 → r ≡ summed map (n + 1) % 2 ^ 64
wrapped-next map n s v r is value added =
    let next = summed-next map n in
    omega arith

-- the next number passes the test, or does not
pub counted-yes : (test : ℕ → Bool) (n before after : ℕ) → before ≡ count test n → test n ≡ true → after ≡ before + 1 → after ≡ count test (n + 1)
counted-yes test n before after is passes more = rw (more, is, count-next test n, passes) refl

-- if the next number does not pass, then the count stays
pub counted-no : (test : ℕ → Bool) (n before after : ℕ) → before ≡ count test n → test n ≡ false → after ≡ before → after ≡ count test (n + 1)
counted-no test n before after is fails same =
    let zero_more : count test n + 0 ≡ count test n = omega arith in
    rw (same, is, count-next test n, fails, zero_more) refl

-- a count and one more are few
pub one-more-few : (test : ℕ → Bool) (n before one : ℕ) (b : Bool) → before ≡ count test n → one ≡ (if b then 1 else 0) → before + one ≤ n + 1
one-more-few test n before one b is one_is =
    let few = count-few test n in
    let most = one-few b in
    omega arith
