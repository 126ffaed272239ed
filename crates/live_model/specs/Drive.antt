-- The drive: exact rounds of steps on a world, until all transactions are closed.
use Rattle.std.specs.Prelude.{ℕ, zero, suc, ◌+◌, ◌*◌, Bool, true, false, ◌&&◌, not, ◌==◌, nat_lt, List, [], ◌∷◌, ◌++◌, length, Option, Some, None, is_some, is_none, if◌then◌else◌}
use Rattle.zeus_base.specs.declared.step.Step.{Step}
use Rattle.zeus_base.specs.declared.step.Step.TheVariants.{Begin, Try, Deliver, Tick, Stop, View, Install}
use Rattle.zeus_txn.specs.declared.tx.TxDecl.{TxDecl}
use Rattle.zeus_packet.specs.declared.letter.Letter.{Letter}
use Rattle.zeus_model.specs.Tables.{nth, put, below}
use Rattle.zeus_model.specs.State.{slot}
use Rattle.zeus_model.specs.Book.{record_of}
use Rattle.zeus_model.specs.Readers.{is_live, live_among, is_acked, all_closed}
use Rattle.zeus_model.specs.World.{World, node, tx_decl, link, last_view, stepped}
use Rattle.live_model.specs.Cell.{Kill, declared}

-- how far a drive has come: the world, the steps that it has made, how many steps the node to be killed has made in the whole run,
-- for each link the number of the next packet to deliver, and whether it has ended
pub record Going : Type 0 where
  pub world : World
  pub steps : List Step
  pub count : ℕ
  pub next : List (List ℕ)
  pub over : Bool

-- a step is one of a node where that node acts in it; a view is no node's
unfoldable pub is_step_of : List TxDecl → ℕ → Step → Bool
is_step_of txs n (Begin k) = (declared txs k).node == n
is_step_of txs n (Try m s) = m == n
is_step_of txs n (Deliver sender receiver i) = receiver == n
is_step_of txs n (Tick m) = m == n
is_step_of txs n (Stop m) = m == n
is_step_of txs n (View set) = false
is_step_of txs n (Install m e) = m == n

-- whether the step would be the one at which its node is killed
unfoldable pub is_due : Option Kill → List TxDecl → ℕ → Step → Bool
is_due None txs count s = false
is_due (Some k) txs count s = is_step_of txs k.node s && (count == k.event)

-- in its place the node stops
unfoldable pub stop_of : Option Kill → Step → Step
stop_of None s = s
stop_of (Some k) s = Stop k.node

-- how many steps of the node to be killed a step is
unfoldable pub counts_as : Option Kill → List TxDecl → Step → ℕ
counts_as None txs s = 0
counts_as (Some k) txs s = if is_step_of txs k.node s then 1 else 0

-- the step, or the stop where the kill is due
abbrev pub or_stop : Option Kill → List TxDecl → ℕ → Step → Step
or_stop kill txs count s = if is_due kill txs count s then stop_of kill s else s

-- one more step is made
abbrev pub stepped_by : Option Kill → Going → Step → Going
stepped_by kill g s =
    record { world = stepped g.world s; steps = g.steps ++ s ∷ []; count = g.count + counts_as kill g.world.txs s; next = g.next; over = g.over }

-- a step is offered: it ends the drive where all transactions are closed
unfoldable pub offer : Option Kill → Going → Step → Going
offer kill g s =
    if g.over then g else (if all_closed g.world then record g { over = true } else stepped_by kill g (or_stop kill g.world.txs g.count s))

-- an item of a round: a step that is offered where a test holds
abbrev pub offer_where : Bool → Option Kill → Going → Step → Going
offer_where test kill g s = if test then offer kill g s else g

-- an item for each of some numbers
unfoldable pub each_number : (Going → ℕ → Going) → Going → List ℕ → Going
each_number item g [] = g
each_number item g (n ∷ ns) = each_number item (item g n) ns

-- ---- the items of a round

-- the view of the members that run, where a member has stopped
abbrev pub view_item : Option Kill → Going → Going
view_item kill g =
    let last = last_view g.world.views in
    offer_where (nat_lt (length (live_among g.world last)) (length last)) kill g (View (live_among g.world last))

-- the install of the last view, at a live node of an older epoch
abbrev pub install_item : Option Kill → Going → ℕ → Going
install_item kill g n =
    offer_where (is_live g.world n && nat_lt (node g.world n).epoch (length g.world.views)) kill g (Install n (length g.world.views))

-- a transaction may be begun behind another only where that one is acknowledged
unfoldable pub may_follow : World → Option ℕ → Bool
may_follow w None = true
may_follow w (Some j) = is_acked w j

-- the begin of a transaction that would be begun
unfoldable pub can_begin : World → ℕ → Bool
can_begin w k =
    is_none (record_of w.book k).begun && is_live w (tx_decl w k).node && may_follow w (tx_decl w k).after
    && is_none (slot (node w (tx_decl w k).node) (tx_decl w k).slot).current

-- the begin of a transaction, where it would be begun
abbrev pub begin_item : Option Kill → Going → ℕ → Going
begin_item kill g k = offer_where (can_begin g.world k) kill g (Begin k)

-- the try of a live node's slot that has a current transaction
abbrev pub try_item : Option Kill → ℕ → Going → ℕ → Going
try_item kill n g s = offer_where (is_live g.world n && is_some (slot (node g.world n) s).current) kill g (Try n s)

-- the tries of a node's slots
abbrev pub tries_of : Option Kill → Going → ℕ → Going
tries_of kill g n = each_number (try_item kill n) g (below g.world.config.slots)

-- the number of the next packet of a link
abbrev pub next_of : List (List ℕ) → ℕ → ℕ → ℕ
next_of next sender receiver = nth 0 (nth [] next sender) receiver

-- the next packet of a link is one further
abbrev pub next_after : List (List ℕ) → ℕ → ℕ → List (List ℕ)
next_after next sender receiver = put [] next sender (put 0 (nth [] next sender) receiver (next_of next sender receiver + 1))

-- a packet was delivered, where the step that was made is its delivery and no stop
unfoldable pub with_next : Going → Going → ℕ → ℕ → Bool → Going
with_next before after sender receiver due =
    if not due && nat_lt (length before.steps) (length after.steps) then record after { next = next_after before.next sender receiver } else after

-- the delivery of the least packet that was sent on the link in this drive, and that it has not delivered
abbrev pub delivery : Going → ℕ → ℕ → Step
delivery g sender receiver = Deliver sender receiver (next_of g.next sender receiver)

-- it is offered between live nodes, where there is such a packet
unfoldable pub delivery_item : Option Kill → ℕ → ℕ → Going → ℕ → Going
delivery_item kill sender receiver g turn =
    if is_live g.world sender && is_live g.world receiver && nat_lt (next_of g.next sender receiver) (length (link g.world.links sender receiver))
    then with_next g (offer kill g (delivery g sender receiver)) sender receiver (is_due kill g.world.txs g.count (delivery g sender receiver))
    else g

-- up to 16 of them on a link
abbrev pub deliveries_between : Option Kill → ℕ → Going → ℕ → Going
deliveries_between kill sender g receiver = each_number (delivery_item kill sender receiver) g (below 16)

-- those on all links of a sender
abbrev pub deliveries_from : Option Kill → Going → ℕ → Going
deliveries_from kill g sender = each_number (deliveries_between kill sender) g (below g.world.config.nodes)

-- the tick of a live node
abbrev pub tick_item : Option Kill → Going → ℕ → Going
tick_item kill g n = offer_where (is_live g.world n) kill g (Tick n)

-- ---- rounds

-- the nodes of the configuration
abbrev pub all_nodes : Going → List ℕ
all_nodes g = below g.world.config.nodes

-- views, installs by node, begins by number, tries by node and slot, deliveries by link, ticks by node; each is tested at its turn
abbrev pub views_and_installs : Option Kill → Going → Going
views_and_installs kill g = each_number (install_item kill) (view_item kill g) (all_nodes g)

-- begins by number, and then tries by node and slot
abbrev pub begins_and_tries : Option Kill → Going → Going
begins_and_tries kill g = each_number (tries_of kill) (each_number (begin_item kill) g (below (length g.world.txs))) (all_nodes g)

-- deliveries by link, and then ticks by node
abbrev pub deliveries_and_ticks : Option Kill → Going → Going
deliveries_and_ticks kill g = each_number (tick_item kill) (each_number (deliveries_from kill) g (all_nodes g)) (all_nodes g)

-- a whole round
unfoldable pub round : Option Kill → Going → Going
round kill g = deliveries_and_ticks kill (begins_and_tries kill (views_and_installs kill g))

-- so many rounds
unfoldable pub rounds_of : ℕ → Option Kill → Going → Going
rounds_of zero kill g = g
rounds_of (suc n) kill g = rounds_of n kill (round kill g)

-- ---- the drive

-- how many letters the links of one sender have
unfoldable pub lengths : List (List Letter) → List ℕ
lengths [] = []
lengths (l ∷ ls) = length l ∷ lengths ls

-- how many letters each link has
unfoldable pub all_lengths : List (List (List Letter)) → List (List ℕ)
all_lengths [] = []
all_lengths (row ∷ rows) = lengths row ∷ all_lengths rows

-- how many steps of the node to be killed are among some steps
unfoldable pub count_of : Option Kill → List TxDecl → List Step → ℕ
count_of kill txs [] = 0
count_of kill txs (s ∷ ss) = counts_as kill txs s + count_of kill txs ss

-- where a drive begins: no packet that was sent before is delivered by it
abbrev pub drive_start : World → ℕ → Going
drive_start w count = record { world = w; steps = []; count = count; next = all_lengths w.links; over = false }

-- the drive: 20 rounds for each of the rounds that are asked for; `count` is the number of steps of the node to be killed before it
unfoldable pub drive : World → ℕ → Option Kill → ℕ → Going
drive w rounds kill count = rounds_of (20 * rounds) kill (drive_start w count)
