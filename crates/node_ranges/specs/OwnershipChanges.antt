-- The changes that ownership makes of a node keep its ranges: settled placements, held proposals, gathers and brought copies.
use Rattle.std.specs.Prelude.{ℕ, ◌≡◌, ◌<◌, ◌==◌, true, [], Option, Some, None, if◌then◌else◌, refl}
use Rattle.std.proofs.lemmas.Bool.{cond_both}
use Rattle.zeus_base.specs.Order.{is_below, same_stamp}
use Rattle.zeus_base.specs.declared.config.Limits.{Limits}
use Rattle.zeus_base.specs.declared.order.Stamp.{Stamp}
use Rattle.zeus_packet.specs.Fits.{stamp_fits, place_fits, proposal_fits, value_fits, content_fits}
use Rattle.zeus_packet.specs.declared.place.Place.{Place}
use Rattle.zeus_packet.specs.declared.place.Proposal.{Proposal}
use Rattle.zeus_packet.specs.declared.place.Want.{Want}
use Rattle.zeus_packet.specs.declared.place.Want.TheVariants.{Own, Read, Leave}
use Rattle.zeus_packet.specs.declared.write.Content.{Content}
use Rattle.zeus_model.specs.declared.state.Entry.{Entry}
use Rattle.zeus_model.specs.declared.state.Gather.{Gather}
use Rattle.zeus_model.specs.Ownership.{proposal_above, gather_above, settled_entry, settle, holding, rebased, takes_over, brought, bring, gather_for, noted}
use Rattle.zeus_model.specs.State.{Node, entry, gather, value_of, with_entry, with_copy, with_gather}
use Rattle.zeus_model.specs.Tables.{or_else, where_true}
use Rattle.node_ranges.specs.Parts.{KeepsRanges-with_entry, KeepsRanges-with_copy, KeepsRanges-with_gather}
use Rattle.node_ranges.specs.Places.{proposal_fits-parts}
use Rattle.node_ranges.specs.Ranges.{FitsHeld, FitsEntry, FitsGather, KeepsRanges}

-- ---- settled placements

FitsHeld-above : (limits : Limits) (stamp : Stamp) (p : Option Proposal) → FitsHeld limits p → FitsHeld limits (proposal_above stamp p)
unfolding FitsHeld proposal_above where_true
FitsHeld-above limits stamp None h = tt
FitsHeld-above limits stamp (Some p) h = cond_both (is_below stamp p.stamp) (Some p) None (λ o. FitsHeld limits o) (λ _. h) (λ _. tt)

FitsGather-above : (limits : Limits) (stamp : Stamp) (g : Option Gather) → FitsGather limits g → FitsGather limits (gather_above stamp g)
unfolding FitsGather gather_above where_true
FitsGather-above limits stamp None h = tt
FitsGather-above limits stamp (Some g) h = cond_both (is_below stamp g.proposal.stamp) (Some g) None (λ o. FitsGather limits o) (λ _. h) (λ _. tt)

-- an entry fits after a stamp and a placement that fit were settled
pub FitsEntry-settled : (limits : Limits) (e : Entry) (stamp : Stamp) (place : Place) → stamp_fits limits stamp ≡ true → place_fits limits place ≡ true → FitsEntry limits e → FitsEntry limits (settled_entry e stamp place)
FitsEntry-settled limits e stamp place s p h = record { stamp = s; place = p; proposal = FitsHeld-above limits stamp e.proposal h.proposal }

-- a node settles a stamp and a placement that fit
pub KeepsRanges-settle : (limits : Limits) (n : Node) (x : ℕ) (stamp : Stamp) (place : Place) → x < limits.objects → stamp_fits limits stamp ≡ true → place_fits limits place ≡ true → KeepsRanges limits n → KeepsRanges limits (settle n x stamp place)
unfolding settle
KeepsRanges-settle limits n x stamp place less s p k =
    let e = settled_entry (entry n x) stamp place in
    let g = gather_above stamp (gather n x) in
    cond_both (is_below (entry n x).stamp stamp) (with_gather (with_entry n x e) x g) n (λ m. KeepsRanges limits m)
    (λ _. KeepsRanges-with_gather limits (with_entry n x e) x g less (FitsGather-above limits stamp (gather n x) (k.gathers x))
    (KeepsRanges-with_entry limits n x e less (FitsEntry-settled limits (entry n x) stamp place s p (k.entries x less)) k))
    (λ _. k)

-- a node settles the base of a proposal that fits, where it may
pub KeepsRanges-rebased : (limits : Limits) (n m : Node) (x : ℕ) (p : Proposal) → x < limits.objects → proposal_fits limits p ≡ true → rebased n x p ≡ Some m → KeepsRanges limits n → KeepsRanges limits m
unfolding rebased
KeepsRanges-rebased limits n m x p less fit is k =
    let parts = proposal_fits-parts limits p fit in
    let settled = settle n x p.base p.base_place in
    cond_both (is_below (entry n x).stamp p.base) (if takes_over n x p.base_place then None else Some settled) (Some n) (λ o. o ≡ Some m → KeepsRanges limits m)
    (λ _. cond_both (takes_over n x p.base_place) None (Some settled) (λ o. o ≡ Some m → KeepsRanges limits m)
    (λ _ none. absurd cc)
    (λ _ some. let same : settled ≡ m = cc in rw (← same) (KeepsRanges-settle limits n x p.base p.base_place less parts.base parts.place k)))
    (λ _ some. let same : n ≡ m = cc in rw (← same) k) is

-- ---- held proposals

-- a node holds a proposal that fits
pub KeepsRanges-holding : (limits : Limits) (n : Node) (x : ℕ) (p : Proposal) → x < limits.objects → proposal_fits limits p ≡ true → KeepsRanges limits n → KeepsRanges limits (holding n x p)
unfolding FitsHeld
KeepsRanges-holding limits n x p less fit k =
    let e = k.entries x less in
    KeepsRanges-with_entry limits n x record { stamp = (entry n x).stamp; place = (entry n x).place; proposal = Some p } less
    (record { stamp = e.stamp; place = e.place; proposal = fit }) k

-- ---- gathers

-- a gather whose proposal and content fit the limits
pub record FitsGathered (limits : Limits) (g : Gather) : Type 0 where
  pub proposal : proposal_fits limits g.proposal ≡ true
  pub content : content_fits limits g.content ≡ true

-- what a node gathers for a proposal that fits, fits
pub FitsGathered-for : (limits : Limits) (p : Proposal) (g : Option Gather) → proposal_fits limits p ≡ true → FitsGather limits g → FitsGathered limits (gather_for p g)
unfolding FitsGather gather_for content_fits
FitsGathered-for limits p None fit h = record { proposal = fit; content = refl }
FitsGathered-for limits p (Some g) fit h =
    let fresh : Gather = record { proposal = p; acks = []; content = None } in
    cond_both (same_stamp g.proposal.stamp p.stamp) g fresh (λ o. FitsGathered limits o) (λ _. record { proposal = h.0; content = h.1 })
    (λ _. record { proposal = fit; content = refl })

content_fits-first : (limits : Limits) (a b : Option Content) → content_fits limits a ≡ true → content_fits limits b ≡ true → content_fits limits (or_else a b) ≡ true
unfolding or_else
content_fits-first limits None b h g = g
content_fits-first limits (Some a) b h g = h

-- so does what it has gathered once an acknowledgement is noted
pub FitsGathered-noted : (limits : Limits) (g : Gather) (from : ℕ) (content : Option Content) → content_fits limits content ≡ true → FitsGathered limits g → FitsGathered limits (noted g from content)
FitsGathered-noted limits g from content fit h = record { proposal = h.proposal; content = content_fits-first limits g.content content h.content fit }

-- a node notes what it has gathered
pub KeepsRanges-gathered : (limits : Limits) (n : Node) (x : ℕ) (g : Gather) → x < limits.objects → FitsGathered limits g → KeepsRanges limits n → KeepsRanges limits (with_gather n x (Some g))
unfolding FitsGather
KeepsRanges-gathered limits n x g less fit k = KeepsRanges-with_gather limits n x (Some g) less (fit.proposal, fit.content) k

-- what was gathered fits
pub FitsGathered-at : (limits : Limits) (n : Node) (x : ℕ) (g : Gather) → gather n x ≡ Some g → KeepsRanges limits n → FitsGathered limits g
unfolding FitsGather
FitsGathered-at limits n x g is k = let fit = rw is at (k.gathers x) in record { proposal = fit.0; content = fit.1 }

-- ---- brought copies

brought-fits : (limits : Limits) (want : Want) (c : Content) → value_fits limits c.value ≡ true → value_fits limits (value_of (brought want c)) ≡ true
unfolding brought value_of value_fits
brought-fits limits Own c h = h
brought-fits limits Read c h = h
brought-fits limits Leave c h = refl

-- a requester takes a content that fits
pub KeepsRanges-bring : (limits : Limits) (n : Node) (x : ℕ) (p : Proposal) (c : Content) → x < limits.objects → value_fits limits c.value ≡ true → KeepsRanges limits n → KeepsRanges limits (bring n x p c)
unfolding bring
KeepsRanges-bring limits n x p c less fit k =
    cond_both (p.requester == n.me) (with_copy n x (brought p.want c)) n (λ m. KeepsRanges limits m)
    (λ _. KeepsRanges-with_copy limits n x (brought p.want c) less (brought-fits limits p.want c fit) k) (λ _. k)
