-- Acts that keep the ranges and send letters that fit: nothing, letters alone, one after another, and in turn.
use Rattle.std.specs.Prelude.{ℕ, ◌≡◌, ◌<◌, true, List, [], ◌∷◌, ◌++◌, All}
use Rattle.std.proofs.lemmas.List.Elements.{All-head, All-tail}
use Rattle.zeus_base.specs.Nodes.{has}
use Rattle.zeus_base.specs.NodeLaws.{has-head, has-tail}
use Rattle.zeus_base.specs.declared.config.Limits.{Limits}
use Rattle.zeus_packet.specs.Fits.{nodes_fit, body_fits, fits}
use Rattle.zeus_packet.specs.declared.letter.Body.{Body}
use Rattle.zeus_packet.specs.declared.letter.Letter.{Letter}
use Rattle.zeus_model.specs.State.{Node}
use Rattle.zeus_model.specs.Act.{Act, Did, letter, to_each, and_then, did_then, in_turn}
use Rattle.node_ranges.specs.NodeSets.{nodes_fit-has}
use Rattle.node_ranges.specs.Places.{AllFit-none, AllFit-cons, AllFit-append, fits-from}
use Rattle.node_ranges.specs.Ranges.{AllFit, HasNodes, KeepsRanges, KeepsAndFits}

-- ---- letters

-- a letter of the node to one of the nodes fits where what it says does
pub letter-fits : (limits : Limits) (n : Node) (to : ℕ) (body : Body) → HasNodes limits n → to < limits.nodes → body_fits limits body ≡ true → fits (letter n to body) limits ≡ true
letter-fits limits n to body h less fit = fits-from limits (letter n to body) h.me less h.epoch fit

-- so does each letter to a set of nodes, where each receiver is a node and what it is told fits
pub to_each-fit : (limits : Limits) (n : Node) (tos : List ℕ) (body : Body) → HasNodes limits n → ((m : ℕ) → has m tos ≡ true → m < limits.nodes) → ((m : ℕ) → has m tos ≡ true → body_fits limits body ≡ true) → AllFit limits (to_each n tos body)
unfolding to_each
to_each-fit limits n [] body h less fit = AllFit-none limits
to_each-fit limits n (to ∷ tos) body h less fit =
    let first = has-head to tos in
    AllFit-cons limits (letter n to body) (to_each n tos body) (letter-fits limits n to body h (less to first) (fit to first))
    (to_each-fit limits n tos body h (λ m is. less m (has-tail m to tos is)) (λ m is. fit m (has-tail m to tos is)))

-- what fits goes to a set of nodes that fits
pub to_nodes-fit : (limits : Limits) (n : Node) (tos : List ℕ) (body : Body) → HasNodes limits n → nodes_fit limits tos ≡ true → body_fits limits body ≡ true → AllFit limits (to_each n tos body)
to_nodes-fit limits n tos body h tos_fit fit = to_each-fit limits n tos body h (λ m is. nodes_fit-has limits tos m tos_fit is) (λ m is. fit)

-- ---- acts

-- a node that does nothing keeps its ranges
pub KeepsAndFits-still : (limits : Limits) (n : Node) → KeepsRanges limits n → KeepsAndFits limits n []
KeepsAndFits-still limits n k = record { node = k; sent = AllFit-none limits }

-- what two acts send fits where what each sends fits
pub KeepsAndFits-joined : (limits : Limits) (m n : Node) (a b : List Letter) → KeepsAndFits limits m a → KeepsAndFits limits n b → KeepsAndFits limits n (a ++ b)
KeepsAndFits-joined limits m n a b h g = record { node = g.node; sent = AllFit-append limits a b h.sent g.sent }

-- an act keeps the ranges where it does so from its node on
abbrev pub Keeping : Limits → (Node → Act) → Type 0
Keeping limits f = (n : Node) → KeepsRanges limits n → KeepsAndFits limits (f n).node (f n).sent

-- one act after another
pub KeepsAndFits-then : (limits : Limits) (a : Act) (next : Node → Act) → KeepsAndFits limits a.node a.sent → Keeping limits next → KeepsAndFits limits (and_then a next).node (and_then a next).sent
KeepsAndFits-then limits a next h g = KeepsAndFits-joined limits a.node (next a.node).node a.sent (next a.node).sent h (g a.node h.node)

-- an answer, and then an act
pub KeepsAndFits-did_then : {A : Type 0} (limits : Limits) (d : Did A) (next : Node → Act) → KeepsAndFits limits d.node d.sent → Keeping limits next → KeepsAndFits limits (did_then d next).node (did_then d next).sent
KeepsAndFits-did_then limits d next h g = KeepsAndFits-joined limits d.node (next d.node).node d.sent (next d.node).sent h (g d.node h.node)

-- what a node does for each item in turn keeps the ranges, where it does for each item of a kind
pub in_turn-keeps : {A : Type 0} (limits : Limits) (f : Node → A → Act) (P : A → Type 0) (is : List A) → ((i : A) → P i → Keeping limits (λ n. f n i)) → All P is → Keeping limits (λ n. in_turn f n is)
unfolding in_turn
in_turn-keeps limits f P [] each all n k = KeepsAndFits-still limits n k
in_turn-keeps limits f P (i ∷ is) each all n k =
    KeepsAndFits-then limits (f n i) (λ m. in_turn f m is) (each i (All-head P i is all) n k) (in_turn-keeps limits f P is each (All-tail P i is all))
