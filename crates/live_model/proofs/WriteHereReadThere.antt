-- A write at node 0 is read at node 1: a cluster of two cells, event by event, and the run that its journals merge to.
use Rattle.std.specs.Prelude.{ℕ, zero, suc, ◌≡◌, ◌<◌, ◌⊎◌, true, drop, IfSome, List, [], ◌∷◌, Some, None}
use Rattle.std.proofs.Common.{refl, arith, ap, inl}
use Rattle.zeus_base.specs.declared.config.Config.{Config}
use Rattle.zeus_base.specs.declared.step.Step.TheVariants.{Begin, Try, Deliver}
use Rattle.zeus_base.specs.declared.value.Value.TheVariants.{Num}
use Rattle.zeus_txn.specs.declared.ops.Op.TheVariants.{Add, Get}
use Rattle.zeus_txn.specs.declared.tx.TxDecl.{TxDecl}
use Rattle.zeus_packet.specs.declared.letter.Body.TheVariants.{Recovered}
use Rattle.zeus_model.specs.Tables.{nth}
use Rattle.worked_runs.proofs.Machine.{machine}
use Rattle.live_model.specs.Items.{Stamped, Job}
use Rattle.live_model.specs.Cell.{CellEvent, Deed, Began, Tried, Took, declared, halts, jobs, sends, sights_seen, takes, travelling}
use Rattle.zeus_model.specs.Readers.{all_closed}
use Rattle.zeus_model.specs.World.{run, start}
use Rattle.zeus_model.specs.In.{In, here, there}
use Rattle.live_model.specs.Service.{AreServiceClocks, AreViews, HaltsFit, halts_taken, sights_from, views_from}
use Rattle.live_model.specs.Ends.{ClientId, answers, notes, is_of}
use Rattle.live_model.specs.Client.{ClientView, KnowsAcked, IsHandedOver, IsGone, IsClient, greatest_clock}
use Rattle.live_model.specs.Cluster.{Plan, Cluster, IsCell, IsCluster, IsFront}
use Rattle.live_model.specs.Merge.{merged}
use Rattle.live_model.proofs.Whole.{cell_of, cell_of-keeps, service_of, front-whole}
use Rattle.live_model.proofs.Opened.{live}

abbrev pub two_nodes : Config
two_nodes =
    record { version = 1; nodes = 2; slots = 1; directory = 0 ∷ []; degree = None; objects = record { value = Num 5; owner = 0; replicas = 0 ∷ 1 ∷ [] } ∷ [] }

abbrev pub write_and_read : List TxDecl
write_and_read =
    record { node = 0; slot = 0; after = None; tx = Add 0 3 ∷ [] } ∷ record { node = 1; slot = 0; after = None; tx = Get 0 ∷ [] } ∷ []

abbrev pub at_clock : ℕ → Deed → CellEvent
at_clock clock deed = record { clock = clock; deed = deed }

abbrev pub no_packet : Stamped
no_packet = record { clock = 0; number = 0; letter = record { from = 0; to = 0; epoch = 0; body = Recovered } }

-- the packet of a number that a cell sends in its events
abbrev pub packet_of : ℕ → ℕ → List CellEvent → ℕ → Stamped
packet_of sender receiver es number = nth no_packet (sends sender two_nodes write_and_read receiver es) number

abbrev pub begin_and_try : List CellEvent
begin_and_try = at_clock 1 (Began record { tx = 0; seen = 0 }) ∷ at_clock 2 (Tried 0) ∷ []

abbrev store : List CellEvent
store = at_clock 3 (Took 0 (packet_of 0 1 begin_and_try 0)) ∷ []

abbrev first_cell : List CellEvent
first_cell =
    at_clock 1 (Began record { tx = 0; seen = 0 }) ∷ at_clock 2 (Tried 0) ∷ at_clock 4 (Took 1 (packet_of 1 0 store 0)) ∷ []

abbrev second_cell : List CellEvent
second_cell =
    at_clock 3 (Took 0 (packet_of 0 1 begin_and_try 0)) ∷ at_clock 5 (Took 0 (packet_of 0 1 first_cell 1))
    ∷ at_clock 6 (Began record { tx = 1; seen = 0 }) ∷ at_clock 7 (Tried 0) ∷ []

unfoldable events_of : ℕ → List CellEvent
events_of zero = first_cell
events_of (suc n) = second_cell

-- the packets have the clocks of the events that sent them
packets : sends 0 two_nodes write_and_read 1 first_cell ≡ packet_of 0 1 begin_and_try 0 ∷ packet_of 0 1 first_cell 1 ∷ []
unfolding machine live
packets = refl

-- the write's client gets its answer at the clock of the event that acknowledges
answer : answers 0 two_nodes write_and_read 0 first_cell ≡ record { tx = 0; reply = Some record { values = Num 8 ∷ []; failed = None }; clock = 4 } ∷ []
unfolding machine live
answer = refl

-- the read finds the new value
read_answer : answers 1 two_nodes write_and_read 0 second_cell ≡ record { tx = 1; reply = Some record { values = Num 8 ∷ []; failed = None }; clock = 7 } ∷ []
unfolding machine live
read_answer = refl

abbrev plan : Plan
plan = record { config = two_nodes; txs = write_and_read; kill = None }

-- both cells keep their facts
first_keeps : IsCell plan 0 first_cell (cell_of plan 0 first_cell)
unfolding machine live
first_keeps =
    cell_of-keeps plan 0 first_cell (omega arith) (refl, (refl, (refl, tt)))
    (omega arith, (omega arith, (omega arith, tt)))
    (record { own = refl; new = refl; begun = refl }, (tt, (tt, tt)))
    (refl, λ h. absurd cc, (refl, λ h. absurd cc, (refl, λ h. absurd cc, tt)))

second_keeps : IsCell plan 1 second_cell (cell_of plan 1 second_cell)
unfolding machine live
second_keeps =
    cell_of-keeps plan 1 second_cell (omega arith) (refl, (refl, (refl, (refl, tt))))
    (omega arith, (omega arith, (omega arith, (omega arith, tt))))
    (tt, (tt, (record { own = refl; new = refl; begun = refl }, (tt, tt))))
    (refl, λ h. absurd cc, (refl, λ h. absurd cc, (refl, λ h. absurd cc, (refl, λ h. absurd cc, tt))))

unfoldable client_of : ClientId → ClientView
client_of id =
    record {
      next = 2;
      best = greatest_clock (answers id.node two_nodes write_and_read id.slot (events_of id.node));
      jobs = jobs write_and_read id.slot (events_of id.node);
      answers = answers id.node two_nodes write_and_read id.slot (events_of id.node);
      notes = λ n. [];
    }

abbrev cluster : Cluster
cluster = record { cells = λ n. cell_of plan n (events_of n); clients = client_of; service = service_of plan [] }

-- ---- the whole cluster keeps its facts

cells_keep : (n : ℕ) → n < 2 → IsCell plan n (events_of n) (cell_of plan n (events_of n))
unfolding events_of
cells_keep zero less = first_keeps
cells_keep (suc zero) less = second_keeps
cells_keep (suc (suc n)) less = absurd (omega arith)

-- no transaction is declared behind another
none_behind : (tx : ℕ) (v : ClientView) (j : Job) → j.tx ≡ tx → (declared write_and_read tx).after ≡ None → IfSome (declared write_and_read j.tx).after (λ k. KnowsAcked write_and_read v j k)
none_behind tx v j same none = rw (same, none) tt

one_job : (job : Job) (v : ClientView) → (declared write_and_read job.tx).after ≡ None → (j : Job) → In j (job ∷ []) → IfSome (declared write_and_read j.tx).after (λ k. KnowsAcked write_and_read v j k)
one_job job v none j (here _ _ e) = none_behind job.tx v j (ap (λ (x : Job). x.tx) e) none
one_job job v none j (there _ _ is) = elim is [ ]

first_each : (k : ℕ) → k < 2 → is_of write_and_read record { node = 0; slot = 0 } k ≡ true → IsHandedOver (client_of record { node = 0; slot = 0 }) k ⊎ IsGone write_and_read (client_of record { node = 0; slot = 0 }) k
unfolding machine live events_of client_of
first_each zero less of = inl record { job = record { tx = 0; seen = 0 }; is = here _ [] refl; tx = refl }
first_each (suc zero) less of = absurd cc
first_each (suc (suc k)) less of = absurd (omega arith)

second_each : (k : ℕ) → k < 2 → is_of write_and_read record { node = 1; slot = 0 } k ≡ true → IsHandedOver (client_of record { node = 1; slot = 0 }) k ⊎ IsGone write_and_read (client_of record { node = 1; slot = 0 }) k
unfolding machine live events_of client_of
second_each zero less of = absurd cc
second_each (suc zero) less of = inl record { job = record { tx = 1; seen = 0 }; is = here _ [] refl; tx = refl }
second_each (suc (suc k)) less of = absurd (omega arith)

first_client : IsClient write_and_read record { node = 0; slot = 0 } (client_of record { node = 0; slot = 0 })
unfolding machine live events_of client_of
first_client =
    record {
      jobs = (omega arith, omega arith, refl, tt);
      behind = one_job record { tx = 0; seen = 0 } (client_of record { node = 0; slot = 0 }) refl;
      each = first_each;
      best = refl;
    }

second_client : IsClient write_and_read record { node = 1; slot = 0 } (client_of record { node = 1; slot = 0 })
unfolding machine live events_of client_of
second_client =
    record {
      jobs = (omega arith, omega arith, refl, tt);
      behind = one_job record { tx = 1; seen = 0 } (client_of record { node = 1; slot = 0 }) refl;
      each = second_each;
      best = refl;
    }

clients_keep : (node slot : ℕ) → node < 2 → slot < 1 → IsClient write_and_read record { node = node; slot = slot } (client_of record { node = node; slot = slot })
clients_keep zero zero less fits = first_client
clients_keep (suc zero) zero less fits = second_client
clients_keep (suc (suc n)) zero less fits = absurd (omega arith)
clients_keep n (suc s) less fits = absurd (omega arith)

abbrev Link : ℕ → ℕ → Type 0
Link sender receiver = IsFront (takes sender (events_of receiver)) (travelling (sends sender two_nodes write_and_read receiver (events_of sender)))

links_meet : (sender receiver : ℕ) → sender < 2 → receiver < 2 → Link sender receiver
unfolding machine live events_of
links_meet zero zero less fits = record { rest = []; is = refl }
links_meet zero (suc zero) less fits = record { rest = []; is = refl }
links_meet (suc zero) zero less fits = record { rest = drop 1 (travelling (sends 1 two_nodes write_and_read 0 second_cell)); is = refl }
links_meet (suc zero) (suc zero) less fits = record { rest = []; is = refl }
links_meet (suc (suc n)) receiver less fits = absurd (omega arith)
links_meet sender (suc (suc n)) less fits = absurd (omega arith)

no_sights : (n : ℕ) → n < 2 → IsFront (sights_seen (events_of n)) []
unfolding machine live events_of
no_sights zero less = record { rest = []; is = refl }
no_sights (suc zero) less = record { rest = []; is = refl }
no_sights (suc (suc n)) less = absurd (omega arith)

cluster_keeps : IsCluster plan cluster record { cells = events_of; service = [] }
unfolding client_of sights_from halts_taken AreServiceClocks HaltsFit AreViews views_from
cluster_keeps =
    record {
      cells = cells_keep;
      clients = λ id at. clients_keep id.node id.slot at.node at.slot;
      service = record { journal = refl; views = refl; clocks = tt; fit = tt; made = tt; halts = λ n. refl; sights = λ n. refl };
      meets = record {
        packets = links_meet;
        jobs = λ id at. front-whole (jobs write_and_read id.slot (events_of id.node));
        answers = λ id at. front-whole (answers id.node two_nodes write_and_read id.slot (events_of id.node));
        notes = λ id n at less. record { rest = notes n two_nodes write_and_read id (events_of n); is = refl };
        halts = λ n less. record { rest = halts (events_of n); is = refl };
        sights = no_sights;
      };
    }

-- the journals merge to the run in which the write is stored, acknowledged, told and read
merge : merged two_nodes cluster ≡ Begin 0 ∷ Try 0 0 ∷ Deliver 0 1 0 ∷ Deliver 1 0 0 ∷ Deliver 0 1 1 ∷ Begin 1 ∷ Try 1 0 ∷ []
unfolding machine live events_of client_of
merge = refl

-- at which all transactions are closed
closed : all_closed (run (start two_nodes write_and_read) (merged two_nodes cluster)) ≡ true
unfolding machine live events_of client_of
closed = refl
