use Rattle.std.proofs.Common.{◌≡◌, ℕ, List, [], ◌∷◌, Option, Some, None, sym, ◌∙◌, refl, rules}
use Rattle.std.specs.Iterator.{YieldsFirst}
use Rattle.zeus_base.specs.Nodes.{least, without}
use Rattle.zeus_base.specs.NodeLaws.{IsNodeSet, without-least, least-none}
use Rattle.zeus_base.proofs.node_set.NodesIterator.next.Goals as goal

next-some : (n : ℕ) (ms ns left : List ℕ) → left ≡ ms → IsNodeSet left → Some n ≡ least left → ns ≡ without n left → ms ≡ n ∷ ns
next-some n ms ns left is set first rest =
    sym is ∙ (without-least 0 n left set.rising (sym first) ∙ rw rest refl)

next-none : (r : Option ℕ) (ms left : List ℕ) → left ≡ ms → None ≡ least left → r ≡ None → YieldsFirst {S = List ℕ} {A = ℕ} (λ s. s) ms r ms
next-none r ms left is first none =
    let empty : ms ≡ [] = sym is ∙ least-none left (sym first) in
    rw none (empty, empty)

pub returns-in_err-node-clause-steps : goal.returns-in_err-node-clause-steps
returns-in_err-node-clause-steps c =
    next-none c.from_residual.result c.args.self.now c.self.inside.left c.self.view_is c.in_err-node.ensures.first c.from_residual.ensures

pub returns-clause-steps : goal.returns-clause-steps
returns-clause-steps c =
    next-some c.in_ok-node.node c.args.self.now c.without-self-inside.result c.self.inside.left c.self.view_is c.in_ok-node.ensures.set c.in_ok-node.ensures.first c.without-self-inside.ensures

pub returns-clause-goes : goal.returns-clause-goes
returns-clause-goes c =
    let steps : c.args.self.now ≡ c.in_ok-node.node ∷ c.without-self-inside.result = next-some c.in_ok-node.node c.args.self.now c.without-self-inside.result c.self.inside.left c.self.view_is c.in_ok-node.ensures.set c.in_ok-node.ensures.first c.without-self-inside.ensures in
    rw steps (search rules)
