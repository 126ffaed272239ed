-- The schedule: the step that a word chooses, and the run of these steps until it ends.
use Rattle.std.specs.Prelude.{ℕ, zero, suc, ◌+◌, ◌/◌, ◌%◌, Bool, ◌&&◌, not, ◌==◌, nat_lt, List, [], ◌∷◌, ◌++◌, length, map, filter, Option, Some, None, if◌then◌else◌}
use Rattle.zeus_base.specs.declared.config.Config.{Config}
use Rattle.zeus_base.specs.declared.order.Stream.{Stream}
use Rattle.zeus_base.specs.declared.step.Step.{Step}
use Rattle.zeus_base.specs.declared.step.Step.TheVariants.{Begin, Try, Deliver, Tick, Stop, View, Install}
use Rattle.zeus_txn.specs.declared.tx.TxDecl.{TxDecl}
use Rattle.zeus_model.specs.Tables.{below, first_of, where_true}
use Rattle.zeus_model.specs.Readers.{live_among, all_closed}
use Rattle.zeus_model.specs.World.{World, node, last_view, start, stepped}
use Rattle.rand_pcg.specs.Lcg.{Lcg}
use Rattle.random_schedule.specs.Choices.{chosen, pairs, live_nodes, streams, ready_txs, can_try, count_sent, can_arrive, can_repeat}
use Rattle.random_schedule.specs.Words.{next_word}
use Rattle.random_schedule.specs.declared.faults.Faults.{Faults}
use Rattle.random_schedule.specs.declared.fresh.FreshPacket.{FreshPacket}

-- what a schedule keeps beside the world
pub record Progress : Type 0 where
  -- of each link the next fresh packet
  pub fresh : List FreshPacket
  -- how many nodes it has stopped
  pub stops : ℕ

-- how far a schedule has come
pub record Schedule : Type 0 where
  pub world : World
  pub progress : Progress
  -- the steps that it has taken
  pub steps : List Step

-- ---- tick, begin and try

-- a tick of the chosen node, or of node 0 if none was chosen
unfoldable pub tick_or_first : Option ℕ → Step
tick_or_first None = Tick 0
tick_or_first (Some n) = Tick n

-- a tick of the chosen live node
abbrev pub tick_of : World → ℕ → Step
tick_of w u = tick_or_first (chosen u (live_nodes w))

-- the begin of the chosen transaction, or else a tick
unfoldable pub begin_at : World → ℕ → Option ℕ → Step
begin_at w u None = tick_of w u
begin_at w u (Some k) = Begin k

-- the begin of the chosen transaction that can begin
abbrev pub begin_step : World → ℕ → Step
begin_step w u = begin_at w u (chosen u (ready_txs w))

-- the try of the chosen slot, or else a tick
unfoldable pub try_at : World → ℕ → Option Stream → Step
try_at w u None = tick_of w u
try_at w u (Some s) = Try s.node s.slot

-- the try of the chosen slot that can try
abbrev pub try_step : World → ℕ → Step
try_step w u = try_at w u (chosen u (filter (can_try w) (streams w.config)))

-- ---- deliveries

-- the chosen link's next fresh packet that can arrive
abbrev pub arriving : World → List FreshPacket → ℕ → Option FreshPacket
arriving w fresh u = chosen u (filter (can_arrive w) fresh)

-- a packet is lost where the word modulo 100 is below the loss; its receiver has a tick then
abbrev pub arrival : ℕ → ℕ → FreshPacket → Step
arrival loss u p = if nat_lt (u / 64 % 100) loss then Tick p.to else Deliver p.from p.to p.number

-- the arrival of the chosen packet or its loss, or else a tick
unfoldable pub arrival_at : ℕ → World → ℕ → Option FreshPacket → Step
arrival_at loss w u None = tick_of w u
arrival_at loss w u (Some p) = arrival loss u p

-- the arrival of a fresh packet, or its loss
abbrev pub fresh_step : ℕ → World → List FreshPacket → ℕ → Step
fresh_step loss w fresh u = arrival_at loss w u (arriving w fresh u)

-- two packets are of the same sender and receiver
unfoldable pub same_link : FreshPacket → FreshPacket → Bool
same_link p q = (p.from == q.from) && (p.to == q.to)

-- the link's next fresh packet is the one behind the given one
unfoldable pub behind : FreshPacket → FreshPacket → FreshPacket
behind p q = if same_link p q then record p { number = p.number + 1 } else q

-- of each link the next fresh packet, once the chosen one, if any, is used
unfoldable pub used_at : List FreshPacket → Option FreshPacket → List FreshPacket
used_at fresh None = fresh
used_at fresh (Some p) = map (behind p) fresh

-- a packet that has arrived, or was lost, is fresh no more
abbrev pub fresh_after : World → List FreshPacket → ℕ → List FreshPacket
fresh_after w fresh u = used_at fresh (arriving w fresh u)

-- a delivery of one of the packets that the chosen link has, or else a tick
unfoldable pub repeat_at : World → ℕ → Option FreshPacket → Step
repeat_at w u None = tick_of w u
repeat_at w u (Some p) = Deliver p.from p.to (u / 64 % count_sent w p)

-- a packet of the chosen link that has one, fresh or not
abbrev pub repeat_step : World → List FreshPacket → ℕ → Step
repeat_step w fresh u = repeat_at w u (chosen u (filter (can_repeat w) fresh))

-- ---- views and stops

-- a stop of the chosen node, or else a tick
unfoldable pub stop_at : World → ℕ → Option ℕ → Step
stop_at w u None = tick_of w u
stop_at w u (Some n) = Stop n

-- a node is to stop where fewer were stopped than may be, more than one is live, and the word is a multiple of 8
unfoldable pub may_stop : ℕ → World → ℕ → ℕ → Bool
may_stop most w stops u = nat_lt stops most && nat_lt 1 (length (live_nodes w)) && (u % 8 == 0)

-- a stop of the chosen live node, or else a tick
abbrev pub stop_step : ℕ → World → ℕ → ℕ → Step
stop_step most w stops u =
    if may_stop most w stops u then stop_at w u (chosen (u / 8) (live_nodes w)) else tick_of w u

-- an install of the last view at the chosen node, or else a stop
unfoldable pub install_at : ℕ → World → ℕ → ℕ → Option ℕ → Step
install_at most w stops u None = stop_step most w stops u
install_at most w stops u (Some n) = Install n (length w.views)

-- a node is behind where its epoch is older than the last view's
unfoldable pub if_behind : World → ℕ → Option ℕ
if_behind w n = where_true (nat_lt (node w n).epoch (length w.views)) n

-- the least live node that is behind
abbrev pub least_behind : World → Option ℕ
least_behind w = first_of (if_behind w) (live_nodes w)

-- the members of the last view that run
abbrev pub members_left : World → List ℕ
members_left w = live_among w (last_view w.views)

-- the view of the members that run, if one has stopped; or else an install of the last view; or else a stop
unfoldable pub member_step : ℕ → World → ℕ → ℕ → Step
member_step most w stops u =
    if nat_lt (length (members_left w)) (length (last_view w.views))
    then View (members_left w)
    else install_at most w stops u (least_behind w)

-- how many nodes were stopped after a step
unfoldable pub stops_after : Step → ℕ → ℕ
stops_after (Stop n) stops = stops + 1
stops_after _ stops = stops

-- ---- the run

-- the step of kind k that u chooses
unfoldable pub step_of : Faults → World → Progress → ℕ → ℕ → Step
step_of f w g k u =
    if nat_lt k 2 then begin_step w u
    else (if nat_lt k 5 then try_step w u
    else (if nat_lt k 12 then fresh_step f.loss w g.fresh u
    else (if nat_lt k 13 then repeat_step w g.fresh u
    else (if nat_lt k 15 then tick_of w u
    else member_step f.stops w g.stops u))))

-- of each link the next fresh packet after that
unfoldable pub fresh_of : World → Progress → ℕ → ℕ → List FreshPacket
fresh_of w g k u = if not (nat_lt k 5) && nat_lt k 12 then fresh_after w g.fresh u else g.fresh

-- how many nodes are stopped after it
unfoldable pub stops_of : Faults → World → Progress → ℕ → ℕ → ℕ
stops_of f w g k u = if nat_lt k 15 then g.stops else stops_after (member_step f.stops w g.stops u) g.stops

-- the step that a word chooses: its kind by the word modulo 16, and the one of that kind by the rest
abbrev pub step_by : Faults → World → Progress → ℕ → Step
step_by f w g word = step_of f w g (word % 16) (word / 16)

-- what is kept then
abbrev pub progress_by : Faults → World → Progress → ℕ → Progress
progress_by f w g word =
    record { fresh = fresh_of w g (word % 16) (word / 16); stops = stops_of f w g (word % 16) (word / 16) }

-- a turn by a word: the step that it chooses is taken
abbrev pub turned : Faults → Schedule → ℕ → Schedule
turned f s word =
    let step = step_by f s.world s.progress word in
    record { world = stepped s.world step; progress = progress_by f s.world s.progress word; steps = s.steps ++ step ∷ [] }

-- up to so many turns, each by the next word, until all transactions are closed; and the words that are left
unfoldable pub scheduled : Faults → ℕ → Schedule → Lcg → Schedule × Lcg
scheduled f zero s words = (s, words)
scheduled f (suc n) s words =
    if all_closed s.world then (s, words) else scheduled f n (turned f s (next_word words).0) (next_word words).1

-- the first packet of a link
abbrev pub first_packet : ℕ → ℕ → FreshPacket
first_packet from to = record { from = from; to = to; number = 0 }

-- what is kept at the start: no packet was delivered, and no node stopped
abbrev pub progress_start : Config → Progress
progress_start c = record { fresh = pairs first_packet (below c.nodes) (below c.nodes); stops = 0 }

-- a schedule at its start
abbrev pub schedule_start : Config → List TxDecl → Schedule
schedule_start c txs = record { world = start c txs; progress = progress_start c; steps = [] }

-- the schedule of these transactions, of at most so many steps
abbrev pub schedule : Config → List TxDecl → ℕ → Faults → Lcg → Schedule
schedule c txs steps f words = (scheduled f steps (schedule_start c txs) words).0

-- the words that it leaves
abbrev pub words_left : Config → List TxDecl → ℕ → Faults → Lcg → Lcg
words_left c txs steps f words = (scheduled f steps (schedule_start c txs) words).1
