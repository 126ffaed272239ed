-- What a letter depends on.
use Rattle.std.specs.Prelude.{ℕ, ◌≡◌, List, [], ◌∷◌, refl}
use Rattle.std.proofs.Common.{ap, ◌∙◌}
use Rattle.zeus_packet.specs.declared.letter.Body.{Body}
use Rattle.zeus_packet.specs.declared.letter.Letter.{Letter}
use Rattle.zeus_model.specs.Act.{letter, to_each}
use Rattle.zeus_model.specs.State.{Node}

-- letters depend on their sender's number and epoch alone
pub to_each-same : (n m : Node) (tos : List ℕ) (body : Body) → n.me ≡ m.me → n.epoch ≡ m.epoch → to_each n tos body ≡ to_each m tos body
unfolding to_each
to_each-same n m [] body me epoch = refl
to_each-same n m (to ∷ tos) body me epoch =
    let first : letter n to body ≡ letter m to body = λ i. record { from = me i; to = to; epoch = epoch i; body = body } in
    ap (λ (l : Letter). l ∷ to_each n tos body) first ∙ ap (λ ls. letter m to body ∷ ls) (to_each-same n m tos body me epoch)
