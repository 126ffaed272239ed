-- Clocks that go on, and the arithmetic of their ratio.
use Rattle.std.proofs.Common.{◌≡◌, ℕ, zero, suc, ◌+◌, ◌*◌, ◌/◌, ◌<◌, ◌≤◌, Bool, true, false, List, [], ◌∷◌, length, Option, None, refl, ap, arith}
use Rattle.std.proofs.Math.ListN.{set}
use Rattle.std.proofs.lemmas.Bool.{ltb-false}
use Rattle.std.proofs.lemmas.Bool.Decides.{nat_tests}
use Rattle.zeus_base.specs.Nodes.{has}
use Rattle.zeus_base.specs.Tables.{numbers_from}
use Rattle.zeus_model.specs.Tables.{nth, below, first_of, or_else, where_true}
use Rattle.zeus_lease.specs.declared.state.Node.{Node}
use Rattle.zeus_lease.specs.Machine.{no_node, is_skewed, skewed_beside, skew, went_on}

-- ---- the nodes' clocks

-- there are as many nodes after clocks have gone on
pub length-went_on : (ns : List Node) (ts : List ℕ) → length (went_on ns ts) ≡ length ns
unfolding went_on
length-went_on [] ts = refl
length-went_on (n ∷ ns) [] = refl
length-went_on (n ∷ ns) (t ∷ ts) = ap suc (length-went_on ns ts)

-- each clock goes on by its number, also where none is given
pub went_on-clock : (ns : List Node) (ts : List ℕ) (k : ℕ) → k < length ns → (nth no_node (went_on ns ts) k).clock ≡ (nth no_node ns k).clock + nth 0 ts k
unfolding went_on nth
went_on-clock [] ts k lt = absurd (omega arith)
went_on-clock (n ∷ ns) [] k lt = omega arith
went_on-clock (n ∷ ns) (t ∷ ts) zero lt = refl
went_on-clock (n ∷ ns) (t ∷ ts) (suc k) lt = went_on-clock ns ts k (omega arith)

-- no node's clock goes back
pub went_on-le : (ns : List Node) (ts : List ℕ) (k : ℕ) → (nth no_node ns k).clock ≤ (nth no_node (went_on ns ts) k).clock
unfolding went_on nth
went_on-le [] ts k = omega arith
went_on-le (n ∷ ns) [] k = omega arith
went_on-le (n ∷ ns) (t ∷ ts) zero = omega arith
went_on-le (n ∷ ns) (t ∷ ts) (suc k) = went_on-le ns ts k

-- each node's clock goes on by at most its number of ticks
pub went_on-most : (ns : List Node) (ts : List ℕ) (k : ℕ) → (nth no_node (went_on ns ts) k).clock ≤ (nth no_node ns k).clock + nth 0 ts k
unfolding went_on nth
went_on-most [] ts k = omega arith
went_on-most (n ∷ ns) [] k = omega arith
went_on-most (n ∷ ns) (t ∷ ts) zero = omega arith
went_on-most (n ∷ ns) (t ∷ ts) (suc k) = went_on-most ns ts k

-- the end of each node's lease stays when clocks go on
pub went_on-end : (ns : List Node) (ts : List ℕ) (k : ℕ) → (nth no_node (went_on ns ts) k).end ≡ (nth no_node ns k).end
unfolding went_on nth
went_on-end [] ts k = refl
went_on-end (n ∷ ns) [] k = refl
went_on-end (n ∷ ns) (t ∷ ts) zero = refl
went_on-end (n ∷ ns) (t ∷ ts) (suc k) = went_on-end ns ts k

-- the expiry of each node stays when clocks go on
pub went_on-expiry : (ns : List Node) (ts : List ℕ) (k : ℕ) → (nth no_node (went_on ns ts) k).expiry ≡ (nth no_node ns k).expiry
unfolding went_on nth
went_on-expiry [] ts k = refl
went_on-expiry (n ∷ ns) [] k = refl
went_on-expiry (n ∷ ns) (t ∷ ts) zero = refl
went_on-expiry (n ∷ ns) (t ∷ ts) (suc k) = went_on-expiry ns ts k

-- ---- no clock goes too fast

-- the numbers from i on, n of them, have each one from i up to i + n
pub has-numbers_from : (i n k : ℕ) → i ≤ k → k < i + n → has k (numbers_from i n) ≡ true
unfolding has numbers_from
has-numbers_from i zero k le lt = absurd (omega arith)
has-numbers_from i (suc n) k le lt = grind (arith, nat_tests, has-numbers_from (suc i) n k)

-- if a search over numbers finds nothing, then there is nothing at each of them
pub none_of : {A : Type 0} (f : ℕ → Option A) (k : ℕ) (xs : List ℕ) → first_of f xs ≡ None → has k xs ≡ true → f k ≡ None
unfolding first_of has or_else
none_of f k [] none h = absurd cc
none_of f k (x ∷ xs) none h = go (f x) refl none (none_of f k xs)
  where
    go : (o : Option _) → f x ≡ o → or_else o (first_of f xs) ≡ None → (first_of f xs ≡ None → has k xs ≡ true → f k ≡ None) → f k ≡ None
    go o e g rest = grind (arith, nat_tests)

-- if there is nothing where a test must be true, then the test is false
pub none_where : {A : Type 0} (b : Bool) (a : A) → where_true b a ≡ None → b ≡ false
unfolding where_true
none_where true a h = absurd cc
none_where false a h = refl

-- where no clock goes too fast, each two keep the ratio
pub keeps_ratio : (percent : ℕ) (ticks : List ℕ) (clocks fast slow : ℕ) → skew percent ticks clocks ≡ None → fast < clocks → slow < clocks → 100 * nth 0 ticks fast ≤ (100 + percent) * nth 0 ticks slow
unfolding skew skewed_beside is_skewed
keeps_ratio percent ticks clocks fast slow none f s =
    let beside : skewed_beside percent ticks clocks fast ≡ None = none_of (skewed_beside percent ticks clocks) fast (below clocks) none (has-numbers_from 0 clocks fast (omega arith) (omega (arith, f))) in
    let row = none_of _ slow (below clocks) beside (has-numbers_from 0 clocks slow (omega arith) (omega (arith, s))) in
    ltb-false _ _ (none_where _ _ row)

-- ---- the ratio

-- `q` is 100 + percent, `w` 100 times the wait of the service
module _ (q s w end c len x : ℕ) (covered : 100 * s + w + q * end ≤ q * (c + len) + 100 * x) where
  -- it stays so in a pass in which the service's clock goes on by at most q / 100 of what the node's does
  pub pass_covers : (ds dn : ℕ) → 100 * ds ≤ q * dn → 100 * (s + ds) + w + q * end ≤ q * (c + dn + len) + 100 * x
  pass_covers ds dn ratio =
      let sum : q * (c + dn + len) ≡ q * (c + len) + q * dn = grind arith in
      omega arith

  -- where the service's clock has come to the expiry, the node's has come to the end
  pub end_comes : 1 ≤ q → q * len ≤ w → x ≤ s → end ≤ c
  end_comes some long came =
      let sum : q * (c + len) ≡ q * c + q * len = grind arith in
      let less : q * end ≤ q * c = omega arith in
      go q end c some less
    where
      go : (q end c : ℕ) → 1 ≤ q → q * end ≤ q * c → end ≤ c
      go q end c some less = grind arith

-- a lease that was asked for before it is granted is covered
pub grant_covers : (q s w asked c len x : ℕ) → asked ≤ c → s + w ≤ x → 100 * s + 100 * w + q * (asked + len) ≤ q * (c + len) + 100 * x
grant_covers q s w asked c len x before late =
    let less : q * (asked + len) ≤ q * (c + len) = times q (asked + len) (c + len) (omega arith) in
    omega arith
  where
    times : (q a b : ℕ) → a ≤ b → q * a ≤ q * b
    times q a b le = grind arith

-- a later expiry covers no less
pub later_covers : (total a x y : ℕ) → total ≤ a + 100 * x → x ≤ y → total ≤ a + 100 * y
later_covers total a x y h le = omega arith

-- a length times a percentage, divided by 100 and rounded up, is not less than that product by 100
pub wait_is_long : (len q : ℕ) → q * len ≤ 100 * ((len * q + 99) / 100)
wait_is_long len q =
    let same : q * len ≡ len * q = grind arith in
    omega arith

-- ---- one node after another

-- the clocks of the first nodes have gone on
unfoldable pub front_on : ℕ → List Node → List ℕ → List Node
front_on zero ns ts = ns
front_on (suc k) [] ts = []
front_on (suc k) (n ∷ ns) [] = n ∷ ns
front_on (suc k) (n ∷ ns) (t ∷ ts) = record n { clock = n.clock + t } ∷ front_on k ns ts

-- there are as many nodes after the clocks of the first ones have gone on
pub length-front_on : (k : ℕ) (ns : List Node) (ts : List ℕ) → length (front_on k ns ts) ≡ length ns
unfolding front_on
length-front_on zero ns ts = refl
length-front_on (suc k) [] ts = refl
length-front_on (suc k) (n ∷ ns) [] = refl
length-front_on (suc k) (n ∷ ns) (t ∷ ts) = ap suc (length-front_on k ns ts)

-- the next one has not
pub front_on-here : (k : ℕ) (ns : List Node) (ts : List ℕ) → nth no_node (front_on k ns ts) k ≡ nth no_node ns k
unfolding front_on nth
front_on-here zero ns ts = refl
front_on-here (suc k) [] ts = refl
front_on-here (suc k) (n ∷ ns) [] = refl
front_on-here (suc k) (n ∷ ns) (t ∷ ts) = front_on-here k ns ts

-- if the clocks of the first k nodes have gone on and the next one's goes on, then those of the first k + 1 have
pub front_on-next : (k : ℕ) (ns : List Node) (ts : List ℕ) → k < length ns → k < length ts
    → set (front_on k ns ts) k (record (nth no_node ns k) { clock = (nth no_node ns k).clock + nth 0 ts k }) ≡ front_on (suc k) ns ts
unfolding front_on nth
front_on-next zero [] ts h g = absurd (omega arith)
front_on-next zero (n ∷ ns) [] h g = absurd (omega arith)
front_on-next zero (n ∷ ns) (t ∷ ts) h g = refl
front_on-next (suc k) [] ts h g = absurd (omega arith)
front_on-next (suc k) (n ∷ ns) [] h g = absurd (omega arith)
front_on-next (suc k) (n ∷ ns) (t ∷ ts) h g = ap (λ (l : List Node). record n { clock = n.clock + t } ∷ l) (front_on-next k ns ts (omega arith) (omega arith))

-- if at least as many clocks have gone on as there are nodes, then all have
pub front_on-all : (k : ℕ) (ns : List Node) (ts : List ℕ) → length ns ≤ k → front_on k ns ts ≡ went_on ns ts
unfolding front_on went_on
front_on-all zero [] ts h = refl
front_on-all zero (n ∷ ns) ts h = absurd (omega arith)
front_on-all (suc k) [] ts h = refl
front_on-all (suc k) (n ∷ ns) [] h = refl
front_on-all (suc k) (n ∷ ns) (t ∷ ts) h = ap (λ (l : List Node). record n { clock = n.clock + t } ∷ l) (front_on-all k ns ts (omega arith))
