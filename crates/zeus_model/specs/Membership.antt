-- Views, ticks and stops.
use Rattle.std.specs.Prelude.{ℕ, ◌+◌, Bool, true, false, ◌&&◌, not, ◌==◌, nat_lt, List, [], ◌∷◌, ◌++◌, length, map, Option, Some, None, is_none, is_some, if◌then◌else◌}
use Rattle.zeus_base.specs.Nodes.{has, without, meet}
use Rattle.zeus_base.specs.declared.order.Stream.{Stream}
use Rattle.zeus_packet.specs.Place.{source}
use Rattle.zeus_packet.specs.declared.letter.Body.TheVariants.{RInv, RVal, Recovered}
use Rattle.zeus_packet.specs.declared.letter.Letter.{Letter}
use Rattle.zeus_packet.specs.declared.place.Place.{Place}
use Rattle.zeus_packet.specs.declared.place.Proposal.{Proposal}
use Rattle.zeus_packet.specs.declared.place.View.{View}
use Rattle.zeus_packet.specs.declared.place.Want.TheVariants.{Own, Read, Leave}
use Rattle.zeus_txn.specs.Ops.{mentions, named, is_write}
use Rattle.zeus_model.specs.declared.answer.Install.{Install}
use Rattle.zeus_model.specs.declared.answer.Install.TheVariants.{Installed, Stopped as InstallStopped, Old}
use Rattle.zeus_model.specs.declared.answer.Stop.{Stop}
use Rattle.zeus_model.specs.declared.answer.Stop.TheVariants.{Done, Stopped as StopStopped}
use Rattle.zeus_model.specs.declared.answer.Ticked.{Ticked}
use Rattle.zeus_model.specs.declared.answer.Ticked.TheVariants.{Ticked as TickDone, Stopped as TickStopped}
use Rattle.zeus_model.specs.declared.state.Current.{Current}
use Rattle.zeus_model.specs.declared.state.Gather.{Gather}
use Rattle.zeus_model.specs.declared.state.Kept.{Kept}
use Rattle.zeus_model.specs.Tables.{below, first_of, where_true}
use Rattle.zeus_model.specs.State.{Node, entry, slot, log, own_stream, is_open}
use Rattle.zeus_model.specs.Act.{Did, just, sends, did_then, to_each}
use Rattle.zeus_model.specs.Ownership.{is_source, unready_cause, collector, invalidations, acknowledgement, exceeds}
use Rattle.zeus_model.specs.Commit.{as_kept, finish, outside}
use Rattle.zeus_model.specs.Local.{requests, not_owned, not_copied}

-- all gathers are dropped
unfoldable pub dropped : List (Option Gather) → List (Option Gather)
dropped [] = []
dropped (g ∷ gs) = None ∷ dropped gs

-- install: the node takes a later view, forgets who reported and what it gathered, and finishes; all else stays
unfoldable pub install : Node → View → Did Install
install n v =
    if n.stopped then just n InstallStopped else (if nat_lt n.epoch v.epoch
    then did_then (just (record n { epoch = v.epoch; members = v.members; reported = []; gathers = dropped n.gathers }) Installed) finish
    else just n (Old n.epoch))

-- stop: a stopped node never acts again
unfoldable pub stop : Node → Did Stop
stop n = if n.stopped then just n StopStopped else just (record n { stopped = true }) Done

-- the letters of each of the items, in order
unfoldable pub letters_of : {A : Type 0} → (A → List Letter) → List A → List Letter
letters_of f [] = []
letters_of f (x ∷ xs) = f x ++ letters_of f xs

-- the members other than the node
abbrev pub others : Node → List ℕ
others n = without n.me n.members

-- the nodes of the first set that are not in the second
unfoldable pub apart : List ℕ → List ℕ → List ℕ
apart [] ns = []
apart (m ∷ ms) ns = if has m ns then apart ms ns else m ∷ apart ms ns

-- in a later epoch a node that has reported says so again
unfoldable pub repeat_report : Node → List Letter
repeat_report n = if nat_lt 1 n.epoch && has n.me n.reported then to_each n (others n) Recovered else []

-- entries from a number on go again to each member follower that has not acknowledged
unfoldable pub repeat_entries : Node → Stream → ℕ → ℕ → List Kept → List Letter
repeat_entries n s done number [] = []
repeat_entries n s done number (k ∷ ks) =
    to_each n (apart (without n.me (meet k.followers n.members)) k.acks)
    (RInv record { stream = s; number = number; done = done; followers = k.followers; writes = k.writes })
    ++ repeat_entries n s done (number + 1) ks

unfoldable pub repeat_own : Node → ℕ → List Letter
repeat_own n s = repeat_entries n (own_stream n s) (slot n s).done (slot n s).done (map as_kept (slot n s).pending)

-- so do the stored entries of nodes that are no members
unfoldable pub repeat_kept : Node → Stream → List Letter
repeat_kept n s = repeat_entries n s (log n s).done (log n s).done (log n s).kept

-- a write transaction asks again for what it does not own; with a degree a read asks again for copies
unfoldable pub repeat_requests : Node → Option Current → List Letter
repeat_requests n None = []
repeat_requests n (Some c) =
    if is_write c.tx then requests n Own (not_owned n (named c.tx)) else (if is_some n.degree
    then requests n Read (not_copied n (named c.tx))
    else [])

-- the own acknowledgement of a held proposal is left out at a source that is not ready
unfoldable pub own_acknowledgement : Node → ℕ → Proposal → List Letter
own_acknowledgement n x p =
    if is_source n p.base_place && is_some (unready_cause n x) then [] else acknowledgement n (collector n p n.me) x p ∷ []

unfoldable pub repeat_proposal : Node → ℕ → Option Proposal → List Letter
repeat_proposal n x None = []
repeat_proposal n x (Some p) =
    if is_none (source p.base_place n.members) then [] else invalidations n x p ++ own_acknowledgement n x p

-- an open node drives each proposal that it holds again, where the base has a source
unfoldable pub repeat_proposals : Node → List Letter
repeat_proposals n = if is_open n then letters_of (λ x. repeat_proposal n x (entry n x).proposal) (below (length n.entries)) else []

-- the done of each own stream is told again
unfoldable pub repeat_done : Node → ℕ → List Letter
repeat_done n s = if nat_lt 0 (slot n s).done then to_each n (others n) (RVal (own_stream n s) (slot n s).done) else []

-- the greatest node of the set
unfoldable pub greatest : List ℕ → Option ℕ
greatest [] = None
greatest (m ∷ []) = Some m
greatest (m ∷ (k ∷ ks)) = greatest (k ∷ ks)

unfoldable pub is_greatest : Option ℕ → ℕ → Bool
is_greatest None m = false
is_greatest (Some n) m = n == m

unfoldable pub names_it : ℕ → Option Current → Bool
names_it x None = false
names_it x (Some c) = mentions x (named c.tx)

-- whether a current transaction of the node names the object
unfoldable pub is_wanted : Node → ℕ → Bool
is_wanted n x = is_some (first_of (λ s. where_true (names_it x (slot n s).current) s) (below (length n.slots)))

-- a reader leaves where it is the greatest member replica that is not the owner, more than the degree of member
-- replicas are there, it holds no proposal for the object and none of its current transactions names it
unfoldable pub leaves : Node → ℕ → Place → Bool
leaves n x place =
    is_greatest (greatest (without place.owner (meet place.replicas n.members))) n.me
    && exceeds n.degree (length (meet place.replicas n.members)) && is_none (entry n x).proposal && not (is_wanted n x)

unfoldable pub repeat_leave : Node → ℕ → List Letter
repeat_leave n x = if leaves n x (entry n x).place then requests n Leave (x ∷ []) else []

-- what a running node sends when its timer fires
unfoldable pub repeats : Node → List Letter
repeats n =
    repeat_report n ++ letters_of (repeat_own n) (below (length n.slots)) ++ letters_of (repeat_kept n) (outside n)
    ++ letters_of (λ s. repeat_requests n (slot n s).current) (below (length n.slots)) ++ repeat_proposals n
    ++ letters_of (repeat_done n) (below (length n.slots)) ++ letters_of (repeat_leave n) (below (length n.entries))

-- tick
unfoldable pub tick : Node → Did Ticked
tick n = if n.stopped then just n TickStopped else sends n TickDone (repeats n)
