-- The world: all nodes, all letters that were ever sent, the views and the book; and what a step does to it.
use Rattle.std.specs.Prelude.{ℕ, zero, suc, ◌+◌, ◌-◌, Bool, true, false, ◌&&◌, not, nat_lt, List, [], ◌∷◌, ◌++◌, length, map, take, replicate, Option, Some, None, is_none, is_some, if◌then◌else◌}
use Rattle.zeus_base.specs.Nodes.{has}
use Rattle.zeus_base.specs.declared.config.Config.{Config}
use Rattle.zeus_base.specs.declared.config.ObjectDecl.{ObjectDecl}
use Rattle.zeus_base.specs.declared.step.Step.{Step}
use Rattle.zeus_base.specs.declared.step.Step.TheVariants.{Begin, Try, Deliver, Tick, Stop, View, Install}
use Rattle.zeus_packet.specs.declared.letter.Letter.{Letter}
use Rattle.zeus_packet.specs.declared.letter.Packet.{Packet}
use Rattle.zeus_packet.specs.declared.letter.State.TheVariants.{Valid}
use Rattle.zeus_txn.specs.declared.tx.TxDecl.{TxDecl}
use Rattle.zeus_model.specs.declared.answer.Answer.{Answer}
use Rattle.zeus_model.specs.declared.answer.Answer.TheVariants.{Begin as BeginAnswer, Twice, Waits, Try as TryAnswer, NoPacket, Receive, Tick as TickAnswer, Stop as StopAnswer, View as ViewAnswer, NoView, Install as InstallAnswer}
use Rattle.zeus_model.specs.declared.answer.Begin.{Begin as BeginOutcome}
use Rattle.zeus_model.specs.declared.answer.Begin.TheVariants.{Begun, Stopped}
use Rattle.zeus_model.specs.declared.answer.Made.{Made}
use Rattle.zeus_model.specs.declared.answer.Made.TheVariants.{Installed, Empty, NotMember, NotStopped}
use Rattle.zeus_model.specs.declared.answer.Tried.{Tried}
use Rattle.zeus_model.specs.declared.state.Copy.{Copy}
use Rattle.zeus_model.specs.declared.state.Entry.{Entry}
use Rattle.zeus_model.specs.declared.state.Gather.{Gather}
use Rattle.zeus_model.specs.Tables.{nth, put, below, or_else, where_true, first_of}
use Rattle.zeus_model.specs.State.{Node, no_slot, no_log}
use Rattle.zeus_model.specs.Act.{Did}
use Rattle.zeus_model.specs.Local.{begin, try_slot}
use Rattle.zeus_model.specs.Membership.{install, tick, stop}
use Rattle.zeus_model.specs.Receive.{receive}
use Rattle.zeus_model.specs.Book.{Book, BookChange, no_record, record_of, counted, book_only, change_then, book_begin, book_tried, book_passes, in_stream_order}

pub record World : Type 0 where
  pub config : Config
  pub txs : List TxDecl
  -- by number
  pub nodes : List Node
  -- by sender and receiver: every letter that was ever sent on the link, in order
  pub links : List (List (List Letter))
  -- by epoch, from 1
  pub views : List (List ℕ)
  pub book : Book

-- what a step does: the world after it, its answer, the transactions that have their points in it or are
-- acknowledged by it, and the packets that it sends
pub record Event : Type 0 where
  pub world : World
  pub answer : Answer
  pub points : List ℕ
  pub acked : List ℕ
  pub sent : List Packet

-- every object begins at its declared placement, with stamp 0 of driver 0
unfoldable pub start_entry : ObjectDecl → Entry
start_entry o =
    record { stamp = record { ver = 0; driver = 0 }; place = record { owner = o.owner; replicas = o.replicas }; proposal = None }

-- a declared replica begins with a valid copy of the declared value at version 0
unfoldable pub start_copy : ℕ → ObjectDecl → Option Copy
start_copy me o = where_true (has me o.replicas) record { value = o.value; ver = 0; state = Valid }

unfoldable pub start_gather : ObjectDecl → Option Gather
start_gather o = None

-- a node begins in epoch 1 with all nodes as members, all of them reported
unfoldable pub start_node : Config → ℕ → Node
start_node c me =
    record {
      me = me;
      epoch = 1;
      members = below c.nodes;
      directory = c.directory;
      degree = c.degree;
      reported = below c.nodes;
      stopped = false;
      entries = map start_entry c.objects;
      copies = map (start_copy me) c.objects;
      gathers = map start_gather c.objects;
      slots = replicate c.slots no_slot;
      logs = replicate c.nodes (replicate c.slots no_log);
    }

-- the start of a run: nothing was sent, begun or stopped, and epoch 1 has all nodes
unfoldable pub start : Config → List TxDecl → World
start c txs =
    record {
      config = c;
      txs = txs;
      nodes = map (start_node c) (below c.nodes);
      links = replicate c.nodes (replicate c.nodes []);
      views = below c.nodes ∷ [];
      book = record { steps = 0; points = []; records = replicate (length txs) no_record };
    }

-- past the last node stands a stopped one
abbrev pub no_node : Node
no_node =
    record {
      me = 0;
      epoch = 0;
      members = [];
      directory = [];
      degree = None;
      reported = [];
      stopped = true;
      entries = [];
      copies = [];
      gathers = [];
      slots = [];
      logs = [];
    }

abbrev pub no_tx : TxDecl
no_tx = record { node = 0; slot = 0; after = None; tx = [] }

abbrev pub node : World → ℕ → Node
node w n = nth no_node w.nodes n

abbrev pub tx_decl : World → ℕ → TxDecl
tx_decl w k = nth no_tx w.txs k

-- the letters of a link
abbrev pub link : List (List (List Letter)) → ℕ → ℕ → List Letter
link links from to = nth [] (nth [] links from) to

-- a letter is added to the end of its link
abbrev pub posted : List (List (List Letter)) → Letter → List (List (List Letter))
posted links l = put [] links l.from (put [] (nth [] links l.from) l.to (link links l.from l.to ++ l ∷ []))

unfoldable pub all_posted : List (List (List Letter)) → List Letter → List (List (List Letter))
all_posted links [] = links
all_posted links (l ∷ ls) = all_posted (posted links l) ls

-- a packet's number is the count of letters on its link before it
unfoldable pub packets : List (List (List Letter)) → List Letter → List Packet
packets links [] = []
packets links (l ∷ ls) = record { number = length (link links l.from l.to); letter = l } ∷ packets (posted links l) ls

-- one step sends at most its first 64 letters
abbrev pub first_64 : List Letter → List Letter
first_64 letters = take 64 letters

-- a step that the world itself answers changes nothing but the count of steps
abbrev pub refuse_step : World → Answer → Event
refuse_step w a = record { world = record w { book = counted w.book }; answer = a; points = []; acked = []; sent = [] }

-- a node has acted: its state, its letters and the book's change are kept
abbrev pub acted : World → ℕ → Node → Answer → List Letter → BookChange → Event
acted w n after a letters change =
    record {
      world =
          record {
            config = w.config;
            txs = w.txs;
            nodes = put no_node w.nodes n after;
            links = all_posted w.links letters;
            views = w.views;
            book = counted change.book;
          };
      answer = a;
      points = change.points;
      acked = change.acked;
      sent = packets w.links letters;
    }

-- a transaction waits for the acknowledgement of the one that it is declared behind
unfoldable pub waits_for : World → Option ℕ → Option Answer
waits_for w None = None
waits_for w (Some j) = where_true (is_none (record_of w.book j).acked) (Waits j)

unfoldable pub begin_refused : World → ℕ → Option Answer
begin_refused w k =
    or_else (where_true (is_some (record_of w.book k).begun) Twice)
    (or_else (where_true (node w (tx_decl w k).node).stopped (BeginAnswer Stopped)) (waits_for w (tx_decl w k).after))

unfoldable pub book_begun : Book → ℕ → BeginOutcome → BookChange
book_begun b k Begun = book_only (book_begin b k)
book_begun b k _ = book_only b

abbrev pub begun_at : World → ℕ → ℕ → Did BeginOutcome → Event
begun_at w k n d = acted w n d.node (BeginAnswer d.answer) [] (book_begun w.book k d.answer)

unfoldable pub begin_or_not : World → ℕ → Option Answer → Event
begin_or_not w k (Some a) = refuse_step w a
begin_or_not w k None = begun_at w k (tx_decl w k).node (begin (node w (tx_decl w k).node) (tx_decl w k).slot k (tx_decl w k).tx)

-- begin: the transaction goes to its declared slot, once, and not before the one that it waits for is acknowledged
unfoldable pub step_begin : World → ℕ → Event
step_begin w k = begin_or_not w k (begin_refused w k)

unfoldable pub tried_at : World → ℕ → ℕ → Did Tried → Event
tried_at w n s d =
    acted w n d.node (TryAnswer d.answer) (first_64 d.sent)
    (change_then (book_tried w.book record { node = n; slot = s } w.config.degree d.answer)
    (λ b. book_passes b n (in_stream_order d.passed)))

unfoldable pub nth_letter : List Letter → ℕ → Option Letter
nth_letter [] i = None
nth_letter (l ∷ ls) zero = Some l
nth_letter (l ∷ ls) (suc i) = nth_letter ls i

unfoldable pub received_at : World → ℕ → Did Rattle.zeus_model.specs.declared.answer.Outcome.Outcome → Event
received_at w n d = acted w n d.node (Receive d.answer) (first_64 d.sent) (book_passes w.book n (in_stream_order d.passed))

unfoldable pub deliver_or_not : World → ℕ → ℕ → Option Letter → Event
deliver_or_not w from to None = refuse_step w (NoPacket (length (link w.links from to)))
deliver_or_not w from to (Some l) = received_at w to (receive (node w to) l)

unfoldable pub ticked_at : World → ℕ → Did Rattle.zeus_model.specs.declared.answer.Ticked.Ticked → Event
ticked_at w n d = acted w n d.node (TickAnswer d.answer) (first_64 d.sent) (book_only w.book)

unfoldable pub stopped_at : World → ℕ → Did Rattle.zeus_model.specs.declared.answer.Stop.Stop → Event
stopped_at w n d = acted w n d.node (StopAnswer d.answer) [] (book_only w.book)

unfoldable pub installed_at : World → ℕ → Did Rattle.zeus_model.specs.declared.answer.Install.Install → Event
installed_at w n d = acted w n d.node (InstallAnswer d.answer) (first_64 d.sent) (book_passes w.book n (in_stream_order d.passed))

-- the last view
unfoldable pub last_view : List (List ℕ) → List ℕ
last_view [] = []
last_view (v ∷ []) = v
last_view (v ∷ (u ∷ us)) = last_view (u ∷ us)

unfoldable pub is_empty : List ℕ → Bool
is_empty [] = true
is_empty (n ∷ ns) = false

-- a view has members, all of them members of the last view, and leaves out stopped nodes alone
unfoldable pub view_refused : World → List ℕ → Option Made
view_refused w set =
    or_else (where_true (is_empty set) Empty)
    (or_else (first_of (λ n. where_true (not (has n (last_view w.views))) (NotMember n)) set)
    (first_of (λ n. where_true (not (has n set) && not (node w n).stopped) (NotStopped n)) (last_view w.views)))

unfoldable pub view_or_not : World → List ℕ → Option Made → Event
view_or_not w set (Some m) = refuse_step w (ViewAnswer m)
view_or_not w set None =
    record {
      world = record w { views = w.views ++ set ∷ []; book = counted w.book };
      answer = ViewAnswer (Installed (length w.views + 1));
      points = [];
      acked = [];
      sent = [];
    }

unfoldable pub step_install : World → ℕ → ℕ → Event
step_install w n e =
    if nat_lt (length w.views) e
    then refuse_step w (NoView (length w.views))
    else installed_at w n (install (node w n) record { epoch = e; members = nth [] w.views (e - 1) })

-- what each step does
unfoldable pub happens : World → Step → Event
happens w (Begin k) = step_begin w k
happens w (Try n s) = tried_at w n s (try_slot (node w n) s)
happens w (Deliver from to i) = deliver_or_not w from to (nth_letter (link w.links from to) i)
happens w (Tick n) = ticked_at w n (tick (node w n))
happens w (Stop n) = stopped_at w n (stop (node w n))
happens w (View set) = view_or_not w set (view_refused w set)
happens w (Install n e) = step_install w n e

-- the world after a step
abbrev pub stepped : World → Step → World
stepped w s = (happens w s).world

-- the world after the steps, in order
unfoldable pub run : World → List Step → World
run w [] = w
run w (s ∷ ss) = run (stepped w s) ss

-- what each of the steps does, in order
unfoldable pub events : World → List Step → List Event
events w [] = []
events w (s ∷ ss) = happens w s ∷ events (stepped w s) ss
