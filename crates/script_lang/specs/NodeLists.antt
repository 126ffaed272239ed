-- Lists of nodes, to the end of the line: each a node that there is, and above the one before it.
use Rattle.std.specs.Prelude.{ℕ, suc, Bool, false, ◌||◌, ◌==◌, nat_lt, List, [], ◌∷◌, Option, Some, None, Result, Ok, Err, length, if◌then◌else◌}
use Rattle.zeus_base.specs.Nodes.{with_node}
use Rattle.zeus_model.specs.declared.fault.Kind.{Kind}
use Rattle.zeus_model.specs.declared.fault.Kind.TheVariants.{Word, Twice}
use Rattle.script_lang.specs.Reads.{◌>>=◌}
use Rattle.script_lang.specs.Numbers.{range_of}
unfoldable pub use Rattle.zeus_model.specs.Faults.{is_owner}

-- whether as many are listed as may be
unfoldable pub is_full : Option ℕ → ℕ → Bool
is_full None count = false
is_full (Some most) count = count == most

-- the node that a word lists after these, none below the lowest
unfoldable pub listed_of : ℕ → Option ℕ → Option ℕ → List ℕ → ℕ → List ℕ → Result ℕ Kind
listed_of nodes most owner listed lowest w =
    if is_full most (length listed) then Err Word else
    (range_of 0 nodes w >>= λ n. if nat_lt n lowest || is_owner owner n then Err Twice else Ok n)

-- the nodes that words list after these, none below the lowest
unfoldable pub nodes_after : ℕ → Option ℕ → Option ℕ → List ℕ → ℕ → List (List ℕ) → Result (List ℕ) Kind
nodes_after nodes most owner listed lowest [] = Ok listed
nodes_after nodes most owner listed lowest (w ∷ ws) =
    listed_of nodes most owner listed lowest w >>= λ n. nodes_after nodes most owner (with_node n listed) (suc n) ws
