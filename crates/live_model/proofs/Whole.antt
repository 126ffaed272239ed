-- The cell, the service and the client that keep all that their events give them, with nothing lost.
use Rattle.std.specs.Prelude.{ℕ, ◌≤◌, List, [], ◌∷◌, length, map}
use Rattle.std.proofs.Common.{refl, append-nil}
use Rattle.live_model.specs.Cell.{CellEvent, entry, core, start_core, AreClocks, BeginFresh, HaltsOnly, DeedsFit, takes, jobs, sights_seen, sends, travelling, halts}
use Rattle.live_model.specs.Ends.{answers, notes}
use Rattle.live_model.specs.Service.{ServiceEvent, service_entry, views_made, halts_taken, sights}
use Rattle.live_model.specs.Cluster.{Plan, CellView, IsCell, ServiceView, IsFront, IsPart, none, kept}

-- a list is a part of itself
pub part-whole : {A : Type 0} (xs : List A) → IsPart xs xs
part-whole [] = none
part-whole (x ∷ xs) = kept x xs xs (part-whole xs)

-- a list is a front of itself
pub front-whole : {A : Type 0} (xs : List A) → IsFront xs xs
front-whole xs = record { rest = []; is = append-nil xs }

-- a cell whose links lost nothing
abbrev pub cell_of : Plan → ℕ → List CellEvent → CellView
cell_of p me es =
    record {
      core = core me p.config p.txs es;
      journal = map (entry me) es;
      sent = λ receiver. travelling (sends me p.config p.txs receiver es);
      received = λ sender. takes sender es;
      jobs = λ s. jobs p.txs s es;
      answers = λ s. answers me p.config p.txs s es;
      notes = λ client. notes me p.config p.txs client es;
      halts = halts es;
      sights = sights_seen es;
    }

abbrev pub service_of : Plan → List ServiceEvent → ServiceView
service_of p es =
    record {
      journal = map service_entry es;
      views = views_made p.config es;
      halts = λ n. halts_taken n es;
      sights = λ n. sights n p.config es;
    }

-- it keeps its facts where its clocks, begins and stop are as they must be
pub cell_of-keeps : (p : Plan) (me : ℕ) (es : List CellEvent) → length es ≤ 5000000 → AreClocks 0 es → DeedsFit p.config p.txs es
    → BeginFresh me p.config p.txs (start_core me p.config p.txs) es → HaltsOnly p.kill me 0 es → IsCell p me es (cell_of p me es)
cell_of-keeps p me es few clocks fit begins halting =
    record {
      core = refl;
      journal = refl;
      few = few;
      clocks = clocks;
      fit = fit;
      begins = begins;
      halting = halting;
      received = λ sender. refl;
      jobs = λ s. refl;
      sights = refl;
      sent = λ receiver. part-whole (travelling (sends me p.config p.txs receiver es));
      answers = λ s. refl;
      notes = λ client. refl;
      halts = refl;
    }
