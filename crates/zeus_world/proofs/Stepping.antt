-- What happens in each step, by what its node did.
use Rattle.std.proofs.Common.{ℕ, zero, suc, ◌≡◌, ◌<◌, ◌≤◌, ◌+◌, ◌-◌, ◌^◌, Bool, true, false, not, List, [], Option, Some, None, length, take, refl, sym, ap, ◌∙◌, subst, arith}
use Rattle.std.specs.Prelude.{nat_lt, if◌then◌else◌, is_none}
use Rattle.std.proofs.Math.ListN.{get_or, set}
use Rattle.std.proofs.Common.{◌⊎◌, inl, inr}
use Rattle.std.proofs.lemmas.Bool.{cases_lt}
use Rattle.std.proofs.lemmas.Bool.Decides.{nat_tests}
use Rattle.zeus_base.specs.Limits.{limits_of}
use Rattle.zeus_base.specs.NodeLaws.{IsBelow}
use Rattle.zeus_base.specs.TableLaws.{nth_read}
use Rattle.zeus_base.specs.declared.config.Config.{Config}
use Rattle.zeus_base.specs.declared.order.Stream.{Stream}
use Rattle.zeus_base.specs.declared.step.Passed.{Passed}
use Rattle.zeus_base.specs.declared.step.Step.{Step}
use Rattle.zeus_base.specs.declared.step.Step.TheVariants.{Begin, Try, Deliver, Tick, Stop, View, Install}
use Rattle.zeus_packet.specs.declared.letter.Letter.{Letter}
use Rattle.zeus_packet.specs.declared.place.View.{View as ViewOf}
use Rattle.zeus_txn.specs.declared.tx.TxDecl.{TxDecl}
use Rattle.zeus_model.specs.Book.{Book, BookChange, book_passes, book_tried, change_then, book_only, in_stream_order}
use Rattle.zeus_model.specs.Local.{begin, try_slot}
use Rattle.zeus_model.specs.Membership.{install, stop, tick}
use Rattle.zeus_model.specs.Receive.{receive}
use Rattle.zeus_model.specs.Scripts.{FitsStep}
use Rattle.zeus_model.specs.State.{Node}
use Rattle.zeus_model.specs.Tables.{nth}
use Rattle.zeus_model.specs.World.{World, Event, acted, begin_or_not, begin_refused, begun_at, book_begun, first_64, deliver_or_not, happens, installed_at, link, no_node, no_tx, node, nth_letter, received_at, refuse_step, step_begin, step_install, stopped_at, ticked_at, tried_at, tx_decl}
use Rattle.zeus_model.specs.declared.answer.Answer.{Answer}
use Rattle.zeus_model.specs.declared.answer.Begin.{Begin as BeginOutcome}
use Rattle.zeus_model.specs.declared.answer.Begin.TheVariants.{Begun, Busy, Stopped as BeginStopped}
use Rattle.zeus_model.specs.declared.answer.Install.{Install as Installing}
use Rattle.zeus_model.specs.declared.answer.Outcome.{Outcome as Receiving}
use Rattle.zeus_model.specs.declared.answer.Stop.{Stop as Stopping}
use Rattle.zeus_model.specs.declared.answer.Ticked.{Ticked as Ticking}
use Rattle.zeus_model.specs.declared.answer.Tried.{Tried}
use Rattle.zeus_model.specs.declared.answer.Answer.TheVariants.{Begin as BeginAnswer, Try as TryAnswer, Receive as ReceiveAnswer, Tick as TickAnswer, Stop as StopAnswer, Install as InstallAnswer, NoPacket, NoView}
use Rattle.zeus_base.specs.declared.config.Limits.{Limits}
use Rattle.zeus_packet.specs.Fits.{nodes_fit}
use Rattle.node_ranges.specs.Ranges.{KeepsRanges, limits_of as node_limits}
use Rattle.history_book.specs.Books.{BookState, HasLists}
use Rattle.history_book.specs.Tries.{CanNote}
use Rattle.reached_worlds.specs.Ranged.{IsRanged}
use Rattle.reached_worlds.proofs.Passes.{IsOfBelow, book_tried-sized}
use Rattle.reached_worlds.proofs.Reaching.{IsKnown}
use Rattle.reached_worlds.proofs.Telling.{can_note, try_of_below}
use Rattle.reached_worlds.proofs.Signed.{tick-passed}
use Rattle.lossy_fabric.specs.Links.{LinkState, letters}
use Rattle.zeus_world.specs.Settling.{CanSettle}
use Rattle.zeus_world.specs.Shown.{IsKept}
use Rattle.zeus_world.specs.Taken.{IsTaken}
use Rattle.zeus_world.specs.declared.event.StepEvent.{StepEvent}
use Rattle.zeus_world.proofs.Keeping.{known}
use Rattle.zeus_world.proofs.Settling.{CanSend, LoneAnswer, SettledAct, can_post, few_letters, quiet_taken, settled_taken, world_with}

-- ---- a node of the world

-- the node of this number is there, is the world's, has its number, and keeps its ranges
pub record IsNodeAt (w : World) (n : ℕ) (k : Node) : Type 0 where
  pub there : n < w.config.nodes
  pub place : n < length w.nodes
  pub same : node w n ≡ k
  pub number : k.me ≡ n
  pub keeps : KeepsRanges (limits_of w.config) k

-- if a number is of the configuration of a ranged world, then its node is there
pub node_at : (w : World) (n : ℕ) (k : Node) → IsRanged w → n < w.config.nodes → k ≡ get_or w.nodes n k → IsNodeAt w n k
node_at w n k r h e =
    let place : n < length w.nodes = rw r.count h in
    let same : node w n ≡ k = nth_read no_node w.nodes n k place e in
    record {
      there = h;
      place = place;
      same = same;
      number = subst (λ (m : Node). m.me ≡ n) same (r.numbers n h);
      keeps = subst (KeepsRanges (limits_of w.config)) same (r.ranges n h);
    }

-- a number of the configuration of a ranged world is within its nodes
pub place_there : (w : World) (n : ℕ) → IsRanged w → n < w.config.nodes → n < length w.nodes
place_there w n r h = rw r.count h

-- ---- a node has acted

-- if a node can send the letters of its act, and book and lists have room for it, then the act can be settled
pub can_settle : (w : World) (n : ℕ) (all said : List Letter) (b : BookState) (L : List (List LinkState)) (r : StepEvent) → said ≡ take 64 all → CanSend w n all L → b.book.steps + 1 < 2 ^ 64 → HasLists b.book r.points r.acked → CanSettle b L said r
can_settle w n all said b L r is can steps lists = record { counts = steps; post = can_post w n all said L is can; lists = lists; few = few_letters said all is }

-- ---- what happens

no_passes : (w : World) (n : ℕ) (ps : List Passed) → ps ≡ [] → book_only w.book ≡ change_then (book_only w.book) (λ e. book_passes e n (in_stream_order ps))
unfolding book_passes in_stream_order
no_passes w n ps h = rw h refl

-- a tick is what the node's tick does, and the book notes its passes
pub tick_happens : (w : World) (n : ℕ) (k : Node) → IsNodeAt w n k
    → happens w (Tick n) ≡ acted w n (tick k).node (TickAnswer (tick k).answer) (take 64 (tick k).sent) (change_then (book_only w.book) (λ e. book_passes e n (in_stream_order (tick k).passed)))
unfolding happens ticked_at
tick_happens w n k at =
    ap (λ (m : Node). ticked_at w n (tick m)) at.same ∙ ap (λ (c : BookChange). acted w n (tick k).node (TickAnswer (tick k).answer) (take 64 (tick k).sent) c) (no_passes w n (tick k).passed (tick-passed k))

-- a try of a slot is what the node's try does, with what the book says of it
pub try_happens : (w : World) (n s : ℕ) (k : Node) → IsNodeAt w n k
    → happens w (Try n s) ≡ acted w n (try_slot k s).node (TryAnswer (try_slot k s).answer) (take 64 (try_slot k s).sent)
    (change_then (book_tried w.book record { node = n; slot = s } w.config.degree (try_slot k s).answer) (λ e. book_passes e n (in_stream_order (try_slot k s).passed)))
unfolding happens tried_at
try_happens w n s k at = ap (λ (m : Node). tried_at w n s (try_slot m s)) at.same

-- if there is a packet at the place, then a delivery is what the node does with its letter, and the book notes its passes
pub deliver_happens : (w : World) (from to i : ℕ) (l : Letter) (k : Node) → IsNodeAt w to k → nth_letter (link w.links from to) i ≡ Some l
    → happens w (Deliver from to i) ≡ acted w to (receive k l).node (ReceiveAnswer (receive k l).answer) (take 64 (receive k l).sent) (change_then (book_only w.book) (λ e. book_passes e to (in_stream_order (receive k l).passed)))
unfolding happens deliver_or_not received_at
deliver_happens w from to i l k at is = ap (deliver_or_not w from to) is ∙ ap (λ (m : Node). received_at w to (receive m l)) at.same

-- if there is no packet at the place, then a delivery is refused with the count of packets
pub deliver_none : (w : World) (from to i : ℕ) → nth_letter (link w.links from to) i ≡ None → happens w (Deliver from to i) ≡ refuse_step w (NoPacket (length (link w.links from to)))
unfolding happens deliver_or_not
deliver_none w from to i is = ap (deliver_or_not w from to) is

either_false : {A : Type 0} (test : Bool) (a b : A) → test ≡ false → (if test then a else b) ≡ b
either_false test a b h = rw h refl

either_true : {A : Type 0} (test : Bool) (a b : A) → test ≡ true → (if test then a else b) ≡ a
either_true test a b h = rw h refl

-- if the epoch has a view, then an install is what the node does with it, and the book notes its passes
pub install_happens : (w : World) (n e : ℕ) (v : ViewOf) (k : Node) → IsNodeAt w n k → e ≤ length w.views → v ≡ record { epoch = e; members = nth [] w.views (e - 1) }
    → happens w (Install n e) ≡ acted w n (install k v).node (InstallAnswer (install k v).answer) (take 64 (install k v).sent) (change_then (book_only w.book) (λ d. book_passes d n (in_stream_order (install k v).passed)))
unfolding happens step_install installed_at
install_happens w n e v k at h is =
    let test : nat_lt (length w.views) e ≡ false = grind (arith, nat_tests) in
    either_false (nat_lt (length w.views) e) (refuse_step w (NoView (length w.views))) _ test
    ∙ ap (λ (u : ViewOf). installed_at w n (install (node w n) u)) (sym is) ∙ ap (λ (m : Node). installed_at w n (install m v)) at.same

-- if the epoch has no view, then an install is refused with the count of views
pub install_none : (w : World) (n e : ℕ) → length w.views < e → happens w (Install n e) ≡ refuse_step w (NoView (length w.views))
unfolding happens step_install
install_none w n e h =
    let test : nat_lt (length w.views) e ≡ true = grind (arith, nat_tests) in
    either_true (nat_lt (length w.views) e) (refuse_step w (NoView (length w.views))) _ test

-- a stop is what the node's stop does, and the book stays
pub stop_happens : (w : World) (n : ℕ) (k : Node) → IsNodeAt w n k → happens w (Stop n) ≡ acted w n (stop k).node (StopAnswer (stop k).answer) [] (book_only w.book)
unfolding happens stopped_at
stop_happens w n k at = ap (λ (m : Node). stopped_at w n (stop m)) at.same

-- if nothing stands against a begin, then it is what the node's begin does, with what the book says of it
pub begin_happens : (w : World) (k : ℕ) (n : Node) → IsNodeAt w (tx_decl w k).node n → None ≡ begin_refused w k
    → happens w (Begin k) ≡ acted w (tx_decl w k).node (begin n (tx_decl w k).slot k (tx_decl w k).tx).node (BeginAnswer (begin n (tx_decl w k).slot k (tx_decl w k).tx).answer) [] (book_begun w.book k (begin n (tx_decl w k).slot k (tx_decl w k).tx).answer)
unfolding happens step_begin begin_or_not
begin_happens w k n at is =
    ap (begin_or_not w k) (sym is) ∙ ap (λ (m : Node). begun_at w k (tx_decl w k).node (begin m (tx_decl w k).slot k (tx_decl w k).tx)) at.same

-- if something stands against a begin, then it is refused with that
pub begin_none : (w : World) (k : ℕ) (a : Answer) → Some a ≡ begin_refused w k → happens w (Begin k) ≡ refuse_step w a
unfolding happens step_begin begin_or_not
begin_none w k a is = ap (begin_or_not w k) (sym is)

-- ---- what fits

-- a begin fits if its transaction is declared
pub fits_begin : (c : Config) (txs k : ℕ) → k < txs → FitsStep c txs (Begin k)
unfolding FitsStep
fits_begin c txs k h = h

-- a stop fits if its node is of the configuration
pub fits_stop : (c : Config) (txs n : ℕ) → n < c.nodes → FitsStep c txs (Stop n)
unfolding FitsStep
fits_stop c txs n h = h

-- if a tick fits, then its node is of the configuration
pub tick_fits : (c : Config) (txs n : ℕ) → FitsStep c txs (Tick n) → n < c.nodes
unfolding FitsStep
tick_fits c txs n h = h

-- the node and the slot are of the configuration
pub record HasPlaces (c : Config) (n s : ℕ) : Type 0 where
  pub node : n < c.nodes
  pub slot : s < c.slots

-- if a try fits, then its node and its slot are of the configuration
pub try_fits : (c : Config) (txs n s : ℕ) → FitsStep c txs (Try n s) → HasPlaces c n s
unfolding FitsStep
try_fits c txs n s h = record { node = h.0; slot = h.1 }

-- sender and receiver are of the configuration
pub record HasNodes (c : Config) (from to : ℕ) : Type 0 where
  pub sender : from < c.nodes
  pub receiver : to < c.nodes

-- if a delivery fits, then its sender and its receiver are of the configuration
pub deliver_fits : (c : Config) (txs from to i : ℕ) → FitsStep c txs (Deliver from to i) → HasNodes c from to
unfolding FitsStep
deliver_fits c txs from to i h = record { sender = h.0; receiver = h.1 }

-- the node is of the configuration, and the epoch is at least 1
pub record HasEpoch (c : Config) (n e : ℕ) : Type 0 where
  pub node : n < c.nodes
  pub first : 1 ≤ e

-- if an install fits, then its node is of the configuration and its epoch is at least 1
pub install_fits : (c : Config) (txs n e : ℕ) → FitsStep c txs (Install n e) → HasEpoch c n e
unfolding FitsStep
install_fits c txs n e h = record { node = h.0; first = h.1 }

-- ---- what is taken

-- if a node stopped and nothing else is told, then what is told and the world are those of the stop
pub stop_taken : (w : World) (n : ℕ) (k after : Node) (t : Stopping) → IsNodeAt w n k → t ≡ (stop k).answer → after ≡ (stop k).node → (told : LoneAnswer w (StopAnswer t) w.book)
    → IsTaken told.event (world_with w (set w.nodes n after) told.links told.book) (happens w (Stop n))
stop_taken w n k after t at says becomes told =
    rw (stop_happens w n k at, ← says, ← becomes) (quiet_taken w n after (StopAnswer t) (book_only w.book) at.place refl refl told)

-- a change in which nothing has its point and nothing is acknowledged
record IsQuietly (c : BookChange) : Type 0 where
  points : c.points ≡ []
  acks : c.acked ≡ []

begun_quiet : (b : Book) (k : ℕ) (a : BeginOutcome) → IsQuietly (book_begun b k a)
unfolding book_begun
begun_quiet b k Begun = record { points = refl; acks = refl }
begun_quiet b k (Busy id) = record { points = refl; acks = refl }
begun_quiet b k BeginStopped = record { points = refl; acks = refl }

-- if a node began a transaction and nothing else is told, then what is told and the world are those of the begin
pub begin_taken : (w : World) (k : ℕ) (n after : Node) (t : BeginOutcome) → IsNodeAt w (tx_decl w k).node n → None ≡ begin_refused w k
    → t ≡ (begin n (tx_decl w k).slot k (tx_decl w k).tx).answer → after ≡ (begin n (tx_decl w k).slot k (tx_decl w k).tx).node → (told : LoneAnswer w (BeginAnswer t) (book_begun w.book k t).book)
    → IsTaken told.event (world_with w (set w.nodes (tx_decl w k).node after) told.links told.book) (happens w (Begin k))
begin_taken w k n after t at is says becomes told =
    let quiet = begun_quiet w.book k t in
    rw (begin_happens w k n at is, ← says, ← becomes)
    (quiet_taken w (tx_decl w k).node after (BeginAnswer t) (book_begun w.book k t) at.place quiet.points quiet.acks told)

-- if a node ticked and its act was settled, then what is told and the world are those of the tick
pub tick_taken : (w : World) (n : ℕ) (k : Node) → IsNodeAt w n k → (act : SettledAct w n (tick k) TickAnswer (λ (a : Ticking). book_only w.book))
    → IsTaken act.event_after (world_with w (set w.nodes n act.after) (letters act.links_after) act.book_after.book) (happens w (Tick n))
tick_taken w n k at act = rw (tick_happens w n k at) (settled_taken w n (tick k) TickAnswer (λ (a : Ticking). book_only w.book) at.place act)

-- if a node received a packet's letter and its act was settled, then what is told and the world are those of the delivery
pub deliver_taken : (w : World) (from to i : ℕ) (l : Letter) (k : Node) → IsNodeAt w to k → nth_letter (link w.links from to) i ≡ Some l
    → (act : SettledAct w to (receive k l) ReceiveAnswer (λ (a : Receiving). book_only w.book))
    → IsTaken act.event_after (world_with w (set w.nodes to act.after) (letters act.links_after) act.book_after.book) (happens w (Deliver from to i))
deliver_taken w from to i l k at is act =
    rw (deliver_happens w from to i l k at is) (settled_taken w to (receive k l) ReceiveAnswer (λ (a : Receiving). book_only w.book) at.place act)

-- if a node installed a view and its act was settled, then what is told and the world are those of the install
pub install_taken : (w : World) (n e : ℕ) (v : ViewOf) (k : Node) → IsNodeAt w n k → e ≤ length w.views → v ≡ record { epoch = e; members = nth [] w.views (e - 1) }
    → (act : SettledAct w n (install k v) InstallAnswer (λ (a : Installing). book_only w.book))
    → IsTaken act.event_after (world_with w (set w.nodes n act.after) (letters act.links_after) act.book_after.book) (happens w (Install n e))
install_taken w n e v k at less is act =
    rw (install_happens w n e v k at less is) (settled_taken w n (install k v) InstallAnswer (λ (a : Installing). book_only w.book) at.place act)

-- if a slot was tried and its act was settled, then what is told and the world are those of the try
pub try_taken : (w : World) (n slot : ℕ) (k : Node) → IsNodeAt w n k → (act : SettledAct w n (try_slot k slot) TryAnswer (λ (a : Tried). book_tried w.book record { node = n; slot = slot } w.config.degree a))
    → IsTaken act.event_after (world_with w (set w.nodes n act.after) (letters act.links_after) act.book_after.book) (happens w (Try n slot))
try_taken w n slot k at act =
    rw (try_happens w n slot k at) (settled_taken w n (try_slot k slot) TryAnswer (λ (a : Tried). book_tried w.book record { node = n; slot = slot } w.config.degree a) at.place act)

-- ---- what the nodes' calls and the book ask

-- members that fit the limits of the world fit those of a node that keeps them
pub members_fit : (limits : Limits) (n : Node) (ms : List ℕ) → KeepsRanges limits n → nodes_fit limits ms ≡ true → nodes_fit (node_limits n) ms ≡ true
unfolding nodes_fit
members_fit limits n ms k h = rw k.sizes.nodes h

-- if a node of a world that is kept with its book tried a slot, then the book can note the answer
pub can_try : (w : World) (n s : ℕ) (k : Node) (t : Tried) (b : BookState) → IsKept w b → IsNodeAt w n k → b.book ≡ w.book → s < w.config.slots → t ≡ (try_slot k s).answer → CanNote b (record { node = n; slot = s }) t
can_try w n s k t b kept at book h e =
    let invariant = (known w b kept).data_invariant in
    let can = can_note w invariant.witness n s b book (rw kept.nodes at.there) (rw kept.slots h) invariant.data_invariant in
    rw (e, ← at.same) can

-- a try leaves the count of steps
pub tried_counted : (w : World) (n s : ℕ) (k : Node) (t : Tried) (b : Book) → IsKnown w → IsNodeAt w n k → t ≡ (try_slot k s).answer
    → b ≡ (book_tried w.book record { node = n; slot = s } w.config.degree t).book → w.book.steps + 1 < 2 ^ 64 → b.steps + 1 < 2 ^ 64
tried_counted w n s k t b about at e is h =
    let there : IsOfBelow (length w.book.records) t = rw (e, ← at.same) (try_of_below w about.data_invariant.witness n s about.data_invariant.data_invariant) in
    let sized = book_tried-sized w.book record { node = n; slot = s } w.config.degree t there in
    let same : b.steps ≡ w.book.steps = ap (λ (d : Book). d.steps) is ∙ sized.steps in
    rw same h

-- an epoch of which there is a view, or none
pub epoch_past : (n e : ℕ) → (e ≡ 0) ⊎ (n < e) → 1 ≤ e → n < e
epoch_past n e (inl nought) h = absurd (omega arith)
epoch_past n e (inr past) h = past

-- if an epoch is neither 0 nor past the last, then it is one of those that there are
pub epoch_there : (n e : ℕ) → ((e ≡ 0) ⊎ (n < e) → true ≡ false) → e ≤ n
epoch_there n e h = elim (cases_lt n e) [ inl past ↦ let no : true ≡ false = h (inr past) in absurd (cc) | inr there ↦ there ]

-- a begin leaves the count of steps
begun_steps : (b : Book) (k : ℕ) (a : BeginOutcome) → (book_begun b k a).book.steps ≡ b.steps
unfolding book_begun
begun_steps b k Begun = refl
begun_steps b k (Busy id) = refl
begun_steps b k BeginStopped = refl

-- a begin leaves room for the count of steps
pub begun_counted : (b : Book) (k : ℕ) (a : BeginOutcome) (d : Book) → d ≡ (book_begun b k a).book → b.steps + 1 < 2 ^ 64 → d.steps + 1 < 2 ^ 64
begun_counted b k a d e h =
    let same : d.steps ≡ b.steps = ap (λ (x : Book). x.steps) e ∙ begun_steps b k a in
    rw same h

-- if a begin fits, then its transaction is declared
pub begin_there : (c : Config) (txs k : ℕ) → FitsStep c txs (Begin k) → k < txs
unfolding FitsStep
begin_there c txs k h = h

-- if a stop fits, then its node is of the configuration
pub stop_there : (c : Config) (txs n : ℕ) → FitsStep c txs (Stop n) → n < c.nodes
unfolding FitsStep
stop_there c txs n h = h
