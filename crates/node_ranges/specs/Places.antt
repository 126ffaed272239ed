-- Placements, proposals and copies that fit, and the letters of lists that do.
use Rattle.std.specs.Prelude.{ℕ, ◌≡◌, ◌<◌, ◌≤◌, ◌==◌, ◌&&◌, not, true, nat_lt, nat_le, List, [], ◌∷◌, ◌++◌, take, Option, Some, None, refl}
use Rattle.std.proofs.Common.{arith, ◌∙◌}
use Rattle.std.proofs.lemmas.Bool.{and_parts, and_from, lt-ltb, ltb-true, cond_both, le-leb}
use Rattle.std.proofs.lemmas.List.Elements.{All-nil, All-cons, All-append, All-take}
use Rattle.zeus_base.specs.Nodes.{has, meet, least}
use Rattle.zeus_base.specs.NodeLaws.{has-with_node, has-without, has-with_same}
use Rattle.zeus_base.specs.declared.config.Limits.{Limits}
use Rattle.zeus_base.specs.declared.order.Stamp.{Stamp}
use Rattle.zeus_packet.specs.Fits.{nodes_fit, stamp_fits, object_fits, place_fits, want_fits, proposal_fits, body_fits, fits}
use Rattle.zeus_packet.specs.Place.{source, with_optional, arbiters, changed_place, new_place}
use Rattle.zeus_packet.specs.declared.letter.Letter.{Letter}
use Rattle.zeus_packet.specs.declared.place.Place.{Place}
use Rattle.zeus_packet.specs.declared.place.Proposal.{Proposal}
use Rattle.zeus_packet.specs.declared.place.Want.{Want}
use Rattle.zeus_packet.specs.declared.place.Want.TheVariants.{Own, Read, Leave}
use Rattle.node_ranges.specs.Ranges.{AllFit}
use Rattle.node_ranges.specs.NodeSets.{nodes_fit-has, nodes_fit-with_node, nodes_fit-without, nodes_fit-meet_right, nodes_fit-least}

-- ---- the parts of what fits

-- the ranges of a placement that fits, field by field
pub record PlaceParts (limits : Limits) (place : Place) : Type 0 where
  pub owner : place.owner < limits.nodes
  pub replicas : nodes_fit limits place.replicas ≡ true
  pub own_copy : has place.owner place.replicas ≡ true

-- a placement that fits has these parts
pub place_fits-parts : (limits : Limits) (place : Place) → place_fits limits place ≡ true → PlaceParts limits place
unfolding place_fits
place_fits-parts limits place h =
    let one = and_parts (nat_lt place.owner limits.nodes && nodes_fit limits place.replicas) (has place.owner place.replicas) h in
    let two = and_parts (nat_lt place.owner limits.nodes) (nodes_fit limits place.replicas) one.0 in
    record { owner = ltb-true place.owner limits.nodes two.0; replicas = two.1; own_copy = one.1 }

-- and one that has them fits
pub place_fits-from : (limits : Limits) (place : Place) → PlaceParts limits place → place_fits limits place ≡ true
unfolding place_fits
place_fits-from limits place p =
    and_from (nat_lt place.owner limits.nodes && nodes_fit limits place.replicas) (has place.owner place.replicas)
    (and_from (nat_lt place.owner limits.nodes) (nodes_fit limits place.replicas) (lt-ltb place.owner limits.nodes p.owner) p.replicas) p.own_copy

-- and a stamp of a node fits
pub stamp_fits-from : (limits : Limits) (stamp : Stamp) → stamp.driver < limits.nodes → stamp_fits limits stamp ≡ true
unfolding stamp_fits
stamp_fits-from limits stamp h = lt-ltb stamp.driver limits.nodes h

-- an object that fits is one that there is
pub object_fits-less : (limits : Limits) (x : ℕ) → object_fits limits x ≡ true → x < limits.objects
unfolding object_fits
object_fits-less limits x h = ltb-true x limits.objects h

-- and one that there is fits
pub object_fits-from : (limits : Limits) (x : ℕ) → x < limits.objects → object_fits limits x ≡ true
unfolding object_fits
object_fits-from limits x h = lt-ltb x limits.objects h

-- the ranges of a proposal that fits, field by field
pub record ProposalParts (limits : Limits) (p : Proposal) : Type 0 where
  pub stamp : stamp_fits limits p.stamp ≡ true
  pub requester : p.requester < limits.nodes
  pub base : stamp_fits limits p.base ≡ true
  pub place : place_fits limits p.base_place ≡ true
  pub want : want_fits p.want p.requester p.base_place ≡ true

-- a proposal that fits has these parts
pub proposal_fits-parts : (limits : Limits) (p : Proposal) → proposal_fits limits p ≡ true → ProposalParts limits p
unfolding proposal_fits
proposal_fits-parts limits p h =
    let a = stamp_fits limits p.stamp in
    let b = nat_lt p.requester limits.nodes in
    let c = stamp_fits limits p.base in
    let d = place_fits limits p.base_place in
    let e = want_fits p.want p.requester p.base_place in
    let one = and_parts (a && b && c && d) e h in
    let two = and_parts (a && b && c) d one.0 in
    let three = and_parts (a && b) c two.0 in
    let four = and_parts a b three.0 in
    record { stamp = four.0; requester = ltb-true p.requester limits.nodes four.1; base = three.1; place = two.1; want = one.1 }

-- and one that has them fits
pub proposal_fits-from : (limits : Limits) (p : Proposal) → ProposalParts limits p → proposal_fits limits p ≡ true
unfolding proposal_fits
proposal_fits-from limits p parts =
    let a = stamp_fits limits p.stamp in
    let b = nat_lt p.requester limits.nodes in
    let c = stamp_fits limits p.base in
    let d = place_fits limits p.base_place in
    let e = want_fits p.want p.requester p.base_place in
    let two = and_from a b parts.stamp (lt-ltb p.requester limits.nodes parts.requester) in
    let three = and_from (a && b) c two parts.base in
    let four = and_from (a && b && c) d three parts.place in
    and_from (a && b && c && d) e four parts.want

-- ---- what a proposal makes of its base

changed_place-fits : (limits : Limits) (want : Want) (requester : ℕ) (place : Place) → requester < limits.nodes → PlaceParts limits place → want_fits want requester place ≡ true → PlaceParts limits (changed_place want requester place)
unfolding changed_place want_fits
changed_place-fits limits Own requester place less p h =
    record {
      owner = less;
      replicas = nodes_fit-with_node limits requester place.replicas less p.replicas;
      own_copy = has-with_same requester place.replicas;
    }
changed_place-fits limits Read requester place less p h =
    record {
      owner = p.owner;
      replicas = nodes_fit-with_node limits requester place.replicas less p.replicas;
      own_copy = grind (arith, p.own_copy, has-with_node place.owner requester place.replicas);
    }
changed_place-fits limits Leave requester place less p h =
    record {
      owner = p.owner;
      replicas = nodes_fit-without limits requester place.replicas p.replicas;
      own_copy = let parts = and_parts (not (place.owner == requester)) (has requester place.replicas) h in
          has-without place.owner requester place.replicas ∙ and_from (not (place.owner == requester)) (has place.owner place.replicas) parts.0 p.own_copy;
    }

-- the placement that a proposal makes fits
pub new_place-fits : (limits : Limits) (p : Proposal) → proposal_fits limits p ≡ true → place_fits limits (new_place p) ≡ true
unfolding new_place
new_place-fits limits p h =
    let parts = proposal_fits-parts limits p h in
    place_fits-from limits (changed_place p.want p.requester p.base_place)
    (changed_place-fits limits p.want p.requester p.base_place parts.requester (place_fits-parts limits p.base_place parts.place) parts.want)

-- ---- sources and arbiters

-- the source of a placement is a node
pub source-fits : (limits : Limits) (place : Place) (members : List ℕ) (n : ℕ) → nodes_fit limits members ≡ true → source place members ≡ Some n → n < limits.nodes
unfolding source
source-fits limits place members n h =
    cond_both (has place.owner members) (Some place.owner) (least (meet place.replicas members)) (λ o. o ≡ Some n → n < limits.nodes)
    (λ member is. let same : place.owner ≡ n = cc in rw (← same) (nodes_fit-has limits members place.owner h member))
    (λ _ is. nodes_fit-least limits (meet place.replicas members) n (nodes_fit-meet_right limits place.replicas members h) is)

with_optional-fits : (limits : Limits) (o : Option ℕ) (ns : List ℕ) → ((n : ℕ) → o ≡ Some n → n < limits.nodes) → nodes_fit limits ns ≡ true → nodes_fit limits (with_optional o ns) ≡ true
unfolding with_optional
with_optional-fits limits None ns h g = g
with_optional-fits limits (Some n) ns h g = nodes_fit-with_node limits n ns (h n refl) g

-- so is each of its arbiters
pub arbiters-fit : (limits : Limits) (place : Place) (members directory : List ℕ) → nodes_fit limits members ≡ true → nodes_fit limits (arbiters place members directory) ≡ true
unfolding arbiters
arbiters-fit limits place members directory h =
    with_optional-fits limits (source place members) (meet directory members) (λ n is. source-fits limits place members n h is) (nodes_fit-meet_right limits directory members h)

-- ---- letters

-- no letter is none that does not fit
pub AllFit-none : (limits : Limits) → AllFit limits []
unfolding AllFit
AllFit-none limits = All-nil (λ (l : Letter). fits l limits ≡ true)

-- one more letter that fits
pub AllFit-cons : (limits : Limits) (l : Letter) (ls : List Letter) → fits l limits ≡ true → AllFit limits ls → AllFit limits (l ∷ ls)
unfolding AllFit
AllFit-cons limits l ls h hs = All-cons (λ (k : Letter). fits k limits ≡ true) l ls h hs

-- one letter that fits
pub AllFit-one : (limits : Limits) (l : Letter) → fits l limits ≡ true → AllFit limits (l ∷ [])
AllFit-one limits l h = AllFit-cons limits l [] h (AllFit-none limits)

-- the letters of two lists
pub AllFit-append : (limits : Limits) (ks ls : List Letter) → AllFit limits ks → AllFit limits ls → AllFit limits (ks ++ ls)
unfolding AllFit
AllFit-append limits ks ls h g = All-append (λ (k : Letter). fits k limits ≡ true) ks ls h g

-- the first of letters that fit
pub AllFit-take : (limits : Limits) (n : ℕ) (ls : List Letter) → AllFit limits ls → AllFit limits (take n ls)
unfolding AllFit
AllFit-take limits n ls h = All-take (λ (k : Letter). fits k limits ≡ true) n ls h

-- a letter fits where its ends are nodes, its epoch is at least 1, and what it says fits
pub fits-from : (limits : Limits) (l : Letter) → l.from < limits.nodes → l.to < limits.nodes → 1 ≤ l.epoch → body_fits limits l.body ≡ true → fits l limits ≡ true
unfolding fits
fits-from limits l from to epoch body =
    let a = nat_lt l.from limits.nodes in
    let b = nat_lt l.to limits.nodes in
    let c = nat_le 1 l.epoch in
    let d = body_fits limits l.body in
    let two = and_from a b (lt-ltb l.from limits.nodes from) (lt-ltb l.to limits.nodes to) in
    let three = and_from (a && b) c two (le-leb 1 l.epoch epoch) in
    and_from (a && b && c) d three body

-- the sender of a letter that fits is a node, and what it says fits
pub fits-sender : (limits : Limits) (l : Letter) → fits l limits ≡ true → l.from < limits.nodes
unfolding fits
fits-sender limits l h =
    let a = nat_lt l.from limits.nodes in
    let b = nat_lt l.to limits.nodes in
    let c = nat_le 1 l.epoch in
    let d = body_fits limits l.body in
    let one = and_parts (a && b && c) d h in
    let two = and_parts (a && b) c one.0 in
    ltb-true l.from limits.nodes (and_parts a b two.0).0

-- what a letter says fits where the letter does
pub fits-body : (limits : Limits) (l : Letter) → fits l limits ≡ true → body_fits limits l.body ≡ true
unfolding fits
fits-body limits l h =
    (and_parts (nat_lt l.from limits.nodes && nat_lt l.to limits.nodes && nat_le 1 l.epoch) (body_fits limits l.body) h).1
