-- What a report changes.
use Rattle.std.proofs.Common.{ℕ, ◌≡◌, true, false, List, refl}
use Rattle.zeus_base.specs.Nodes.{has, is_subset, with_node}
use Rattle.zeus_model.specs.declared.answer.Outcome.TheVariants.{Taken, Again}
use Rattle.zeus_model.specs.Act.{just}
use Rattle.zeus_model.specs.Receive.{on_recovered}
use Rattle.zeus_model.specs.State.{Node, is_open}

-- if a node is known to have reported, then its report is answered `Again` and changes nothing
pub on_recovered-again : (m : Node) (n : ℕ) (old : List ℕ) → m.reported ≡ old → has n old ≡ true → on_recovered m n ≡ just m Again
unfolding on_recovered
on_recovered-again m n old is h = rw (is, h) refl

-- if a node is not known to have reported, then its report is taken
pub on_recovered-answer : (m : Node) (n : ℕ) (old : List ℕ) → m.reported ≡ old → has n old ≡ false → (on_recovered m n).answer ≡ Taken
unfolding on_recovered
on_recovered-answer m n old is h = rw (is, h) refl

-- if a node is not known to have reported, then it is known so after its report
pub on_recovered-reported : (m : Node) (n : ℕ) (old : List ℕ) → m.reported ≡ old → has n old ≡ false → with_node n old ≡ (on_recovered m n).node.reported
unfolding on_recovered
on_recovered-reported m n old is h = rw (is, h) refl

-- a node is open just if all members are known to have reported
pub is_open-known : (n : Node) (members reported : List ℕ) → n.members ≡ members → n.reported ≡ reported → is_subset members reported ≡ is_open n
unfolding is_open
is_open-known n members reported m r = rw (m, r) refl
