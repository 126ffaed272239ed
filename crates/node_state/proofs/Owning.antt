-- What the parts of a node make of it, as the definitions of ownership say it.
use Rattle.std.specs.Prelude.{◌==◌}
use Rattle.std.proofs.Common.{ℕ, ◌≡◌, ◌<◌, ◌⊎◌, inl, inr, true, false, List, Option, Some, None, length, refl}
use Rattle.std.proofs.lemmas.Bool.{cond_both}
use Rattle.zeus_base.specs.Order.{is_below}
use Rattle.zeus_base.specs.declared.order.Stamp.{Stamp}
use Rattle.zeus_base.specs.declared.value.Value.{Value}
use Rattle.zeus_base.specs.declared.value.Value.TheVariants.{Num, Text}
use Rattle.zeus_packet.specs.Fits.{content_fits, proposal_fits, value_fits}
use Rattle.zeus_packet.specs.declared.place.Place.{Place}
use Rattle.zeus_packet.specs.declared.place.Proposal.{Proposal}
use Rattle.zeus_packet.specs.declared.place.Want.{Want}
use Rattle.zeus_packet.specs.declared.place.Want.TheVariants.{Own, Read, Leave}
use Rattle.zeus_packet.specs.declared.write.Content.{Content}
use Rattle.zeus_model.specs.declared.state.Copy.{Copy}
use Rattle.zeus_model.specs.declared.state.Gather.{Gather}
use Rattle.zeus_model.specs.Ownership.{bring, brought, gather_above, gather_for, greater_gather, holding, noted, settle}
use Rattle.zeus_model.specs.State.{Node, entry, gather, with_gather}
use Rattle.zeus_model.specs.Tables.{nth, put}
use Rattle.arbitration.specs.Gathering.{gathered, gathered_by}
use Rattle.owner_entry.specs.Directory.{Directory}
use Rattle.node_ranges.specs.OwnershipChanges.{FitsGathered-for, FitsGathered-noted, KeepsRanges-gathered}
use Rattle.node_ranges.specs.Parts.{KeepsRanges-with_gather}
use Rattle.node_ranges.specs.Ranges.{KeepsRanges, limits_of}

-- the node with this directory
abbrev pub knowing : Node → Directory → Node
knowing n d = record n { directory = d.nodes; degree = d.degree; entries = d.entries }

module _ (n : Node) (d : Directory) (x : ℕ) (nodes : d.nodes ≡ n.directory) (degree : d.degree ≡ n.degree) where
  module _ (stamp : Stamp) (place : Place) (entries : d.entries ≡ (settle n x stamp place).entries) where
    -- a stamp above is settled in the entries, and a gather that is not above it is dropped
    pub settle-above : (gs : List (Option Gather)) → is_below (entry n x).stamp stamp ≡ true → gs ≡ put None n.gathers x (gather_above stamp (nth None n.gathers x)) → record n { directory = d.nodes; degree = d.degree; entries = d.entries; gathers = gs } ≡ settle n x stamp place
    unfolding settle
    settle-above gs above gathers = rw (nodes, degree, entries, gathers, above) refl

    -- another changes nothing
    pub settle-not_above : is_below (entry n x).stamp stamp ≡ false → knowing n d ≡ settle n x stamp place
    unfolding settle
    settle-not_above other = rw (nodes, degree, entries, other) refl

  pub holding-by : (p : Proposal) → d.entries ≡ (holding n x p).entries → knowing n d ≡ holding n x p
  holding-by p entries = rw (nodes, degree, entries) refl

-- settling an object leaves the slots
pub settle-slots : (n : Node) (x : ℕ) (stamp : Stamp) (place : Place) → (settle n x stamp place).slots ≡ n.slots
unfolding settle
settle-slots n x stamp place = cond_both (is_below (entry n x).stamp stamp) _ n (λ (m : Node). m.slots ≡ n.slots) (λ _. refl) (λ _. refl)

-- bringing in an object leaves the slots
pub bring-slots : (n : Node) (x : ℕ) (p : Proposal) (c : Content) → (bring n x p c).slots ≡ n.slots
unfolding bring
bring-slots n x p c = cond_both (p.requester == n.me) _ n (λ (m : Node). m.slots ≡ n.slots) (λ _. refl) (λ _. refl)

-- a requester takes the content, or drops its copy; another node does neither
pub bring-here : (n : Node) (cs : List (Option Copy)) (x : ℕ) (p : Proposal) (c : Content) → (p.requester == n.me) ≡ true → cs ≡ put None n.copies x (brought p.want c) → record n { copies = cs } ≡ bring n x p c
unfolding bring
bring-here n cs x p c here copies = rw (here, copies) refl

-- if a node is not the requester, then a decision brings nothing in there
pub bring-elsewhere : (n : Node) (x : ℕ) (p : Proposal) (c : Content) → (p.requester == n.me) ≡ false → n ≡ bring n x p c
unfolding bring
bring-elsewhere n x p c other = rw other refl

-- a copy is brought to an owner as to a reader
pub brought-kept : (want : Want) (c : Content) → (want ≡ Own) ⊎ (want ≡ Read) → brought Own c ≡ brought want c
unfolding brought
brought-kept want c (inl own) = rw own refl
brought-kept want c (inr read) = rw read refl

-- who leaves keeps no copy
pub brought-leave : (c : Content) → brought Leave c ≡ None
unfolding brought
brought-leave c = refl

-- ---- what is gathered

-- every value fits a node's own limits
pub value_fits-own : (n : Node) (v : Value) → value_fits (limits_of n) v ≡ true
unfolding value_fits
value_fits-own n (Num k) = refl
value_fits-own n (Text t) = refl

-- every content fits the ranges of a node
pub content_fits-own : (n : Node) (c : Option Content) → content_fits (limits_of n) c ≡ true
unfolding content_fits
content_fits-own n None = refl
content_fits-own n (Some c) = value_fits-own n c.value

-- a node that notes an acknowledgement keeps its ranges
KeepsRanges-noting_by : (n : Node) (x from : ℕ) (p : Proposal) (content : Option Content) (o : Option Stamp) → x < length n.entries → proposal_fits (limits_of n) p ≡ true → KeepsRanges (limits_of n) n → KeepsRanges (limits_of n) (with_gather n x (gathered_by (gather n x) from p content o))
unfolding gathered_by
KeepsRanges-noting_by n x from p content (Some stamp) less fit k = KeepsRanges-with_gather (limits_of n) n x (gather n x) less (k.gathers x) k
KeepsRanges-noting_by n x from p content None less fit k =
    KeepsRanges-gathered (limits_of n) n x (noted (gather_for p (gather n x)) from content) less
    (FitsGathered-noted (limits_of n) (gather_for p (gather n x)) from content (content_fits-own n content)
    (FitsGathered-for (limits_of n) p (gather n x) fit (k.gathers x)))
    k

-- if a node keeps the ranges and an acknowledged proposal fits, then it keeps them after it notes the acknowledgement
pub KeepsRanges-noting : (n : Node) (x from : ℕ) (p : Proposal) (content : Option Content) → x < length n.entries → proposal_fits (limits_of n) p ≡ true → KeepsRanges (limits_of n) n → KeepsRanges (limits_of n) (with_gather n x (gathered (gather n x) from p content))
KeepsRanges-noting n x from p content less fit k = KeepsRanges-noting_by n x from p content (greater_gather p.stamp (gather n x)) less fit k
