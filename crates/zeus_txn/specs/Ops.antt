-- What operations name and write, read off their text alone.
use Rattle.std.specs.Prelude.{ℕ, Bool, true, false, ◌||◌, ◌==◌, List, [], ◌∷◌, ◌++◌, if◌then◌else◌}
use Rattle.zeus_txn.specs.declared.ops.Op.{Op}
use Rattle.zeus_txn.specs.declared.ops.Op.TheVariants.{Get, Put, Add, Need, Same}

-- the object of an operation
unfoldable pub object_of : Op → ℕ
object_of (Get x) = x
object_of (Put x v) = x
object_of (Add x d) = x
object_of (Need x n) = x
object_of (Same x v) = x

-- puts and adds store
unfoldable pub stores : Op → Bool
stores (Get x) = false
stores (Put x v) = true
stores (Add x d) = true
stores (Need x n) = false
stores (Same x v) = false

-- whether the object is in the list
unfoldable pub mentions : ℕ → List ℕ → Bool
mentions x [] = false
mentions x (y ∷ ys) = (x == y) || mentions x ys

-- the list with the object, at its end where it is new
unfoldable pub mentioned : List ℕ → ℕ → List ℕ
mentioned xs x = if mentions x xs then xs else xs ++ x ∷ []

unfoldable pub named_after : List ℕ → List Op → List ℕ
named_after seen [] = seen
named_after seen (op ∷ ops) = named_after (mentioned seen (object_of op)) ops

-- the objects that operations name, in the order of first naming
unfoldable pub named : List Op → List ℕ
named ops = named_after [] ops

-- a transaction with a put or an add is a write transaction, whether or not it fails
unfoldable pub is_write : List Op → Bool
is_write [] = false
is_write (op ∷ ops) = stores op || is_write ops

unfoldable pub written_after : List ℕ → List Op → List ℕ
written_after seen [] = seen
written_after seen (op ∷ ops) = written_after (if stores op then mentioned seen (object_of op) else seen) ops

-- the objects that puts and adds name, in the order of first naming by one of these
unfoldable pub written : List Op → List ℕ
written ops = written_after [] ops
