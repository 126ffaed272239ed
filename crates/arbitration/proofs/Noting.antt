-- Gathers read and written by the place of their object, and the test of a decision.
use Rattle.std.proofs.Common.{ℕ, zero, suc, ◌≡◌, ◌∙◌, ◌<◌, ◌≤◌, ◌+◌, true, false, ◌&&◌, List, [], ◌∷◌, Option, Some, None, is_some, length, refl, ap, add-one, arith}
use Rattle.std.proofs.Math.ListN.{get_or, set}
use Rattle.zeus_base.specs.Nodes.{is_subset, least, meet}
use Rattle.zeus_base.specs.Tables.{nth, put}
use Rattle.zeus_base.specs.TableLaws.{nth_read, put-set}
use Rattle.zeus_packet.specs.Place.{arbiters, new_place, source}
use Rattle.zeus_model.specs.declared.state.Gather.{Gather}
use Rattle.zeus_model.specs.Membership.{dropped}
use Rattle.zeus_model.specs.Ownership.{is_decidable}
use Rattle.zeus_model.specs.State.{Node, gather}
use Rattle.arbitration.specs.declared.gathers.Decision.{Decision}
use Rattle.arbitration.specs.Gathering.{IsNodeWith, decision_of, decision_with}

-- what is made of the element at a place is written there
pub put_read : {A : Type 0} (d : A) (xs : List A) (i : ℕ) (old new : A) (f : A → A) → i < length xs → old ≡ get_or xs i old → new ≡ f old → set xs i new ≡ put d xs i (f (nth d xs i))
put_read d xs i old new f h there is = rw (nth_read d xs i old h there, put-set d xs i (f old) h, is) refl

-- the table with nothing gathered of its first objects
unfoldable pub emptied : ℕ → List (Option Gather) → List (Option Gather)
emptied zero gs = gs
emptied (suc n) [] = []
emptied (suc n) (g ∷ gs) = None ∷ emptied n gs

-- gathers of which the first none are emptied are the gathers themselves
pub emptied-zero : (gs : List (Option Gather)) → gs ≡ emptied 0 gs
unfolding emptied
emptied-zero gs = refl

emptied-suc : (n : ℕ) (gs : List (Option Gather)) → n < length gs → set (emptied n gs) n None ≡ emptied (suc n) gs
unfolding emptied
emptied-suc zero [] h = refl
emptied-suc zero (g ∷ gs) h = refl
emptied-suc (suc n) [] h = refl
emptied-suc (suc n) (g ∷ gs) h = ap (λ l. None ∷ l) (emptied-suc n gs (omega arith))

-- if the first n gathers are emptied and the next one is removed, then the first n + 1 are emptied
pub emptied-next : (n : ℕ) (gs old new : List (Option Gather)) → old ≡ emptied n gs → n < length gs → new ≡ set old n None → new ≡ emptied (n + 1) gs
emptied-next n gs old new is h w = rw (w, is, add-one) (emptied-suc n gs h)

-- emptying gathers leaves how many places there are
pub length-emptied : (n : ℕ) (gs : List (Option Gather)) → length (emptied n gs) ≡ length gs
unfolding emptied
length-emptied zero gs = refl
length-emptied (suc n) [] = refl
length-emptied (suc n) (g ∷ gs) = ap suc (length-emptied n gs)

emptied-past : (n : ℕ) (gs : List (Option Gather)) → length gs ≤ n → emptied n gs ≡ dropped gs
unfolding emptied dropped
emptied-past zero [] h = refl
emptied-past zero (g ∷ gs) h = absurd (omega arith)
emptied-past (suc n) [] h = refl
emptied-past (suc n) (g ∷ gs) h = ap (λ l. None ∷ l) (emptied-past n gs (omega arith))

-- if at least as many gathers are emptied as there are, then all are dropped
pub emptied-end : (n : ℕ) (gs items : List (Option Gather)) → items ≡ emptied n gs → length gs ≤ n → items ≡ dropped gs
emptied-end n gs items is h = is ∙ emptied-past n gs h

-- whether a gather can be decided in a view and with a directory
pub is_decidable-known : (n : Node) (g : Gather) (ms ds : List ℕ) → n.members ≡ ms → n.directory ≡ ds → is_decidable n g ≡ (is_some (least (meet ds ms)) && is_some (source g.proposal.base_place ms) && is_some (least (meet (new_place g.proposal).replicas ms)) && is_some g.content && is_subset (arbiters g.proposal.base_place ms ds) g.acks)
unfolding is_decidable
is_decidable-known n g ms ds m d = rw (m, d) refl

-- if a gather is not decidable, then there is no decision
pub decision-not : (n : Node) (g : Gather) → is_decidable n g ≡ false → None ≡ decision_of n (Some g)
unfolding decision_of
decision-not n g e = rw e refl

-- if a gather is decidable, then the decision is that of its proposal and content
pub decision-made : (n : Node) (g : Gather) → is_decidable n g ≡ true → decision_with g.proposal g.content ≡ decision_of n (Some g)
unfolding decision_of
decision-made n g e = rw e refl

-- if a node has no gather of an object, then there is no decision of it
pub decision-none : (n : Node) (gs : List (Option Gather)) (ms ds : List ℕ) (x : ℕ) → IsNodeWith n gs ms ds → None ≡ nth None gs x → None ≡ decision_of n (gather n x)
unfolding decision_of
decision-none n gs ms ds x is e = rw (is.gathers, ← e) refl

-- if a node has a gather of an object, then the decision of the object is that of the gather
pub decision-some : (n : Node) (gs : List (Option Gather)) (ms ds : List ℕ) (x : ℕ) (g : Gather) (r : Option Decision) → IsNodeWith n gs ms ds → Some g ≡ nth None gs x → r ≡ decision_of n (Some g) → r ≡ decision_of n (gather n x)
unfolding decision_of is_decidable
decision-some n gs ms ds x g r is e h = rw (is.gathers, ← e) h
