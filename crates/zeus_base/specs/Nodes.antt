-- Sets of nodes as rising lists of their numbers, so that "in the order of nodes" is the list itself.
use Rattle.std.specs.Str.{bytes_eq}
use Rattle.std.specs.Prelude.{ℕ, Bool, true, false, ◌&&◌, ◌||◌, ◌==◌, nat_lt, List, [], ◌∷◌, Option, Some, None, if◌then◌else◌}

-- whether the node is in the set
unfoldable pub has : ℕ → List ℕ → Bool
has n [] = false
has n (m ∷ ms) = (n == m) || has n ms

-- the set with the node
unfoldable pub with_node : ℕ → List ℕ → List ℕ
with_node n [] = n ∷ []
with_node n (m ∷ ms) = if nat_lt n m then n ∷ m ∷ ms else (if n == m then m ∷ ms else m ∷ with_node n ms)

-- the set without the node
unfoldable pub without : ℕ → List ℕ → List ℕ
without n [] = []
without n (m ∷ ms) = if n == m then without n ms else m ∷ without n ms

-- the nodes that are in both sets
unfoldable pub meet : List ℕ → List ℕ → List ℕ
meet [] ns = []
meet (m ∷ ms) ns = if has m ns then m ∷ meet ms ns else meet ms ns

-- the nodes that are in one of the sets
unfoldable pub join : List ℕ → List ℕ → List ℕ
join [] ns = ns
join (m ∷ ms) ns = with_node m (join ms ns)

-- whether each node of the first set is in the second
unfoldable pub is_subset : List ℕ → List ℕ → Bool
is_subset [] ns = true
is_subset (m ∷ ms) ns = has m ns && is_subset ms ns

-- the least node of the set
unfoldable pub least : List ℕ → Option ℕ
least [] = None
least (m ∷ ms) = Some m

-- whether two sets are one
abbrev pub same_nodes : List ℕ → List ℕ → Bool
same_nodes ms ns = bytes_eq ms ns
