-- Lists of nodes as words: what is read is spelled so, and what is spelled so is read.
use Rattle.std.proofs.Common.{◌≡◌, ℕ, suc, ◌+◌, ◌<◌, ◌≤◌, Bool, true, false, List, [], ◌∷◌, ◌++◌, length, Option, Some, None, Ok, refl, sym, ap, ◌∙◌, arith, append_assoc, append-nil, length-append}
use Rattle.std.specs.Prelude.{◌||◌, ◌==◌, nat_lt, decimal, map}
use Rattle.std.proofs.lemmas.Bool.{le-ltb, ltb-false, ne_eqb}
use Rattle.std.proofs.lemmas.Bool.Decides.{nat_tests}
use Rattle.zeus_base.specs.Nodes.{has, with_node}
use Rattle.zeus_base.specs.NodeLaws.{RisesFrom, IsBelow, IsBelow-with_node, has-head, has-tail}
use Rattle.script_lang.specs.NodeLists.{is_full, is_owner, listed_of, nodes_after}
use Rattle.script_lang.proofs.laws.NumberLaws.{range_of-sound, range_of-decimal}
use Rattle.script_lang.proofs.Sound.{IfRead, read_bind, read_ok, read_err, read_cond, read_weaken}

-- the words list these nodes behind those that are listed
pub record IsListed (nodes : ℕ) (owner : Option ℕ) (lowest : ℕ) (listed : List ℕ) (ws : List (List ℕ)) (all : List ℕ) : Type 0 where
  pub ns : List ℕ
  pub words : ws ≡ map decimal ns
  pub whole : all ≡ listed ++ ns
  pub rises : RisesFrom lowest ns
  pub below : IsBelow nodes ns
  pub apart : (k : ℕ) → is_owner owner k ≡ true → has k ns ≡ false

-- a node above all others goes last
pub with_node-last : (n b : ℕ) (ms : List ℕ) → IsBelow b ms → b ≤ n → with_node n ms ≡ ms ++ n ∷ []
unfolding with_node
with_node-last n b [] h le = refl
with_node-last n b (m ∷ ms) h le =
    let less : m < b = h m (has-head m ms) in
    let rest : with_node n ms ≡ ms ++ n ∷ [] = with_node-last n b ms (λ k g. h k (has-tail k m ms g)) le in
    rw (le-ltb n m (omega arith), ne_eqb n m (λ e. omega arith), rest) refl

-- if nodes are below a bound, then they are below a higher one
pub IsBelow-more : (b c : ℕ) (ms : List ℕ) → b ≤ c → IsBelow b ms → IsBelow c ms
IsBelow-more b c ms le h k g = let low = h k g in omega arith

-- if one of two or the other is false, then each is
pub or_false : (x y : Bool) → (x || y) ≡ false → (x ≡ false) × (y ≡ false)
or_false true y h = absurd cc
or_false false y h = (refl, h)

-- the word is that of a node which can be listed next
record IsNextNode (nodes : ℕ) (owner : Option ℕ) (lowest : ℕ) (w : List ℕ) (n : ℕ) : Type 0 where
  word : w ≡ decimal n
  high : lowest ≤ n
  below : n < nodes
  other : is_owner owner n ≡ false

listed_of-sound : (nodes : ℕ) (most owner : Option ℕ) (listed : List ℕ) (lowest : ℕ) (w : List ℕ) → IfRead (listed_of nodes most owner listed lowest w) (IsNextNode nodes owner lowest w)
unfolding listed_of
listed_of-sound nodes most owner listed lowest w =
    read_cond (is_full most (length listed)) _ _ _ (λ t. read_err _ _)
    (λ f. read_bind _ _ _ (range_of-sound 0 nodes w)
    (λ n p. read_cond (nat_lt n lowest || is_owner owner n) _ _ _ (λ t. read_err _ _)
    (λ g. let both = or_false (nat_lt n lowest) (is_owner owner n) g in read_ok _ _ (record { word = p.0; high = ltb-false n lowest both.0; below = p.3; other = both.1 }))))

listed_none : (nodes : ℕ) (owner : Option ℕ) (lowest : ℕ) (listed : List ℕ) → IsListed nodes owner lowest listed [] listed
unfolding RisesFrom has
listed_none nodes owner lowest listed = record {
  ns = [];
  words = refl;
  whole = sym (append-nil listed);
  rises = tt;
  below = λ k h. absurd cc;
  apart = λ k h. refl;
}

has_cons : (k n : ℕ) (ns : List ℕ) → has k (n ∷ ns) ≡ ((k == n) || has k ns)
unfolding has
has_cons k n ns = refl

owner_same : (owner : Option ℕ) (k n : ℕ) → is_owner owner k ≡ true → is_owner owner n ≡ false → (k == n) ≡ false
unfolding is_owner
owner_same None k n h g = absurd cc
owner_same (Some o) k n h g = grind (arith, nat_tests)

listed_more : (nodes : ℕ) (owner : Option ℕ) (lowest : ℕ) (listed : List ℕ) (w : List ℕ) (ws : List (List ℕ)) (n : ℕ) (all : List ℕ)
    → IsBelow lowest listed → IsNextNode nodes owner lowest w n → IsListed nodes owner (suc n) (with_node n listed) ws all → IsListed nodes owner lowest listed (w ∷ ws) all
unfolding RisesFrom
listed_more nodes owner lowest listed w ws n all low next rest = record {
  ns = n ∷ rest.ns;
  words = rw (next.word, ← rest.words) refl;
  whole = rest.whole ∙ rw (with_node-last n lowest listed low next.high, append_assoc) refl;
  rises = (next.high, rest.rises);
  below = λ k h. below k (rw has_cons at h);
  apart = λ k h. rw (has_cons, owner_same owner k n h next.other, rest.apart k h) refl;
}
  where
    below : (k : ℕ) → ((k == n) || has k rest.ns) ≡ true → k < nodes
    below k h = grind (arith, nat_tests, next.below, rest.below k)

-- if nodes are read behind those listed, then the words spell the further nodes, which rise and fit
pub nodes_after-sound : (nodes : ℕ) (most owner : Option ℕ) (listed : List ℕ) (lowest : ℕ) (ws : List (List ℕ)) → IsBelow lowest listed → IfRead (nodes_after nodes most owner listed lowest ws) (IsListed nodes owner lowest listed ws)
unfolding nodes_after
nodes_after-sound nodes most owner listed lowest [] low = read_ok _ _ (listed_none nodes owner lowest listed)
nodes_after-sound nodes most owner listed lowest (w ∷ ws) low =
    read_bind _ _ _ (listed_of-sound nodes most owner listed lowest w)
    (λ n p.
    let below : IsBelow (suc n) (with_node n listed) = IsBelow-with_node (suc n) n listed (omega arith) (IsBelow-more lowest (suc n) listed (omega (arith, p.high)) low) in
    read_weaken _ _ (λ all rest. listed_more nodes owner lowest listed w ws n all low p rest) (nodes_after-sound nodes most owner (with_node n listed) (suc n) ws below))

-- ---- what is spelled is read

-- so many may be listed
unfoldable pub HasRoom : Option ℕ → ℕ → Type 0
HasRoom None k = Unit {0}
HasRoom (Some most) k = k ≤ most

not_full : (most : Option ℕ) (k m : ℕ) → k < m → HasRoom most m → is_full most k ≡ false
unfolding is_full HasRoom
not_full None k m lt h = refl
not_full (Some most) k m lt h = ne_eqb k most (λ e. omega arith)

listed_of-node : (nodes : ℕ) (most owner : Option ℕ) (listed : List ℕ) (lowest n : ℕ) → nodes ≤ 8 → is_full most (length listed) ≡ false → lowest ≤ n → n < nodes → is_owner owner n ≡ false → listed_of nodes most owner listed lowest (decimal n) ≡ Ok n
unfolding listed_of
listed_of-node nodes most owner listed lowest n few room low lt other =
    rw (room, range_of-decimal 0 nodes n (omega arith) (omega arith) lt, le-ltb n lowest low, other) refl

none_owner : (o : Bool) (k : Bool) → (o ≡ true → k ≡ false) → k ≡ true → o ≡ false
none_owner true k h g = let no = h refl in absurd cc
none_owner false k h g = refl

-- further nodes rise behind those that are listed, are in range, are not the owner and have room
pub record CanFollow (nodes : ℕ) (most owner : Option ℕ) (listed : List ℕ) (lowest : ℕ) (ns : List ℕ) : Type 0 where
  pub low : IsBelow lowest listed
  pub rises : RisesFrom lowest ns
  pub below : IsBelow nodes ns
  pub apart : (k : ℕ) → is_owner owner k ≡ true → has k ns ≡ false
  pub room : HasRoom most (length listed + length ns)

-- if further nodes can follow, then reading their words gives the list with them
pub nodes_after-nodes : (nodes : ℕ) (most owner : Option ℕ) (listed : List ℕ) (lowest : ℕ) (ns : List ℕ) → nodes ≤ 8 → CanFollow nodes most owner listed lowest ns
    → nodes_after nodes most owner listed lowest (map decimal ns) ≡ Ok (listed ++ ns)
unfolding nodes_after RisesFrom
nodes_after-nodes nodes most owner listed lowest [] few can = ap Ok (sym (append-nil listed))
nodes_after-nodes nodes most owner listed lowest (n ∷ ns) few can =
    let low = can.low in
    let rises = can.rises in
    let below = can.below in
    let lt : n < nodes = below n (has-head n ns) in
    let other : is_owner owner n ≡ false = none_owner (is_owner owner n) (has n (n ∷ ns)) (can.apart n) (has-head n ns) in
    let not : is_full most (length listed) ≡ false = not_full most (length listed) (length listed + length (n ∷ ns)) (omega arith) can.room in
    let here : listed_of nodes most owner listed lowest (decimal n) ≡ Ok n = listed_of-node nodes most owner listed lowest n few not rises.0 lt other in
    let more : with_node n listed ≡ listed ++ n ∷ [] = with_node-last n lowest listed low rises.0 in
    let high : IsBelow (suc n) (with_node n listed) = IsBelow-with_node (suc n) n listed (omega arith) (IsBelow-more lowest (suc n) listed (omega (arith, rises.0)) low) in
    let length_is : length (with_node n listed) + length ns ≡ length listed + length (n ∷ ns) = rw (more, length-append) (omega arith) in
    let others : CanFollow nodes most owner (with_node n listed) (suc n) ns = record {
      low = high;
      rises = rises.1;
      below = λ k h. below k (has-tail k n ns h);
      apart = λ k h. tail_apart k (can.apart k h);
      room = rw length_is can.room;
    } in
    let rest = nodes_after-nodes nodes most owner (with_node n listed) (suc n) ns few others in
    rw here (rest ∙ ap Ok (rw (more, append_assoc) refl))
  where
    tail_apart : (k : ℕ) → has k (n ∷ ns) ≡ false → has k ns ≡ false
    tail_apart k h = (or_false (k == n) (has k ns) (rw has_cons at h)).1
