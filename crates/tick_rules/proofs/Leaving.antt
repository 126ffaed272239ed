-- What a node asks when it leaves the replicas of an object.
use Rattle.std.proofs.Common.{ℕ, ◌≡◌, true, false, Bool, List, [], ◌∷◌, ◌++◌, length, Option, Some, None, refl, sym, ap, ◌∙◌}
use Rattle.std.specs.Prelude.{◌&&◌, not, is_none, is_some}
use Rattle.zeus_base.specs.Nodes.{meet, without}
use Rattle.zeus_packet.specs.declared.place.Place.{Place}
use Rattle.zeus_packet.specs.declared.place.Want.TheVariants.{Leave}
use Rattle.zeus_model.specs.Local.{requests}
use Rattle.zeus_model.specs.Membership.{greatest, is_greatest, is_wanted, leaves, letters_of, repeat_leave}
use Rattle.zeus_model.specs.Ownership.{exceeds}
use Rattle.zeus_model.specs.State.{Node, entry}

-- the last of the nodes, or else the one before them
unfoldable pub last_after : Option ℕ → List ℕ → Option ℕ
last_after o [] = o
last_after o (m ∷ ms) = last_after (Some m) ms

after-greatest : (m : ℕ) (ms : List ℕ) → last_after (Some m) ms ≡ greatest (m ∷ ms)
unfolding last_after greatest
after-greatest m [] = refl
after-greatest m (k ∷ ks) = after-greatest k ks

-- the last of all nodes is the greatest
pub last_after-all : (ms : List ℕ) → last_after None ms ≡ greatest ms
unfolding last_after greatest
last_after-all [] = refl
last_after-all (m ∷ ms) = after-greatest m ms

-- one step through the nodes
pub last_after-next : (o : Option ℕ) (m : ℕ) (left rest : List ℕ) → left ≡ m ∷ rest → last_after (Some m) rest ≡ last_after o left
unfolding last_after
last_after-next o m left rest e = rw e refl

-- no node is left
pub last_after-end : (o : Option ℕ) (left : List ℕ) → left ≡ [] → o ≡ last_after o left
unfolding last_after
last_after-end o left e = rw e refl

-- the node leaves
pub leave-asked : (n : Node) (x : ℕ) → leaves n x (entry n x).place ≡ true → repeat_leave n x ≡ requests n Leave (x ∷ [])
unfolding repeat_leave
leave-asked n x h = rw h refl

-- it stays
pub leave-none : (n : Node) (x : ℕ) → leaves n x (entry n x).place ≡ false → repeat_leave n x ≡ []
unfolding repeat_leave
leave-none n x h = rw h refl

-- there is no degree
pub no-degree : (n : Node) (d : Option ℕ) (none : Bool) → d ≡ n.degree → is_some d ≡ not none → none ≡ true → n.degree ≡ None
no-degree n None none e f h = sym e
no-degree n (Some x) none e f h = absurd (cc (f, h))

-- without a degree no reader leaves
stays : (n : Node) (x : ℕ) (place : Place) → n.degree ≡ None → leaves n x place ≡ false
unfolding leaves exceeds
stays n x place e =
    elim (is_greatest (greatest (without place.owner (meet place.replicas n.members))) n.me) as
    (λ b. (b && exceeds n.degree (length (meet place.replicas n.members)) && is_none (entry n x).proposal && not (is_wanted n x)) ≡ false) [
      | true ↦ rw e refl
      | false ↦ refl
    ]

-- nor asks for any of the objects to do so
pub leaves-none : (n : Node) (xs : List ℕ) → n.degree ≡ None → letters_of (repeat_leave n) xs ≡ []
unfolding letters_of
leaves-none n [] e = refl
leaves-none n (x ∷ xs) e = ap (λ l. l ++ letters_of (repeat_leave n) xs) (leave-none n x (stays n x (entry n x).place e)) ∙ leaves-none n xs e
