-- How many slots and entries a node has at the start.
use Rattle.std.proofs.Common.{ℕ, zero, suc, ◌≡◌, List, [], ◌∷◌, length, map, refl, ap}
use Rattle.std.specs.Prelude.{replicate}
use Rattle.zeus_base.specs.declared.config.Config.{Config}
use Rattle.zeus_model.specs.State.{no_slot}
use Rattle.zeus_model.specs.World.{start_entry, start_node}

length-all : {A : Type 0} (n : ℕ) (x : A) → length (replicate n x) ≡ n
length-all zero x = refl
length-all (suc n) x = ap suc (length-all n x)

length-mapped : {A B : Type 0} (f : A → B) (xs : List A) → length (map f xs) ≡ length xs
length-mapped f [] = refl
length-mapped f (x ∷ xs) = ap suc (length-mapped f xs)

-- at the start a node has as many slots as configured
pub start-slots : (c : Config) (me : ℕ) → length (start_node c me).slots ≡ c.slots
unfolding start_node
start-slots c me = length-all c.slots no_slot

-- at the start a node has an entry for each declared object
pub start-entries : (c : Config) (me : ℕ) → length (start_node c me).entries ≡ length c.objects
unfolding start_node
start-entries c me = length-mapped start_entry c.objects
