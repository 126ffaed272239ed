-- What is closed in the run is closed at home.
use Rattle.std.specs.Prelude.{ℕ, zero, suc, ◌≡◌, ◌<◌, Bool, ◌||◌, List, [], ◌∷◌, length, Option, Some, None}
use Rattle.std.proofs.Common.{arith, refl, ap, ◌∙◌, inl, inr}
use Rattle.std.proofs.lemmas.Bool.{cases_lt}
use Rattle.zeus_base.specs.TableLaws.{nth-past}
use Rattle.zeus_txn.specs.declared.tx.TxDecl.{TxDecl}
use Rattle.zeus_model.specs.Book.{record_of}
use Rattle.zeus_model.specs.Readers.{is_acked, is_ended, waits_in_vain, is_closed, each_closed, all_closed}
use Rattle.zeus_model.specs.State.{Node}
use Rattle.zeus_model.specs.Tables.{below}
use Rattle.zeus_model.specs.World.{World, node, tx_decl, no_tx, run, start}
use Rattle.live_model.specs.Cell.{declared}
use Rattle.live_model.specs.Cluster.{Plan, Cluster, Events}
use Rattle.live_model.specs.Merge.{merged}
use Rattle.live_replay.specs.Closed.{home, acked_at_home, ended_at_home, in_vain, closed_at_home, each_closed_at_home, all_closed_at_home}
use Rattle.live_replay.specs.Replayed.{IsLive}
use Rattle.live_replay.proofs.Causes.{tx-fits}
use Rattle.live_replay.proofs.Results.{whole-mirrors, replay-node, replay-book}

-- each transaction is of a node that there is
pub home-there : (p : Plan) (k : Cluster) (es : Events) (id : ℕ) → IsLive p k es → (declared p.txs id).node < p.config.nodes
home-there p k es id h =
    let txs = h.txs in
    let limits = h.limits in
    let nodes = limits.nodes in
    elim (cases_lt id (length p.txs)) [
      | inl less ↦ let f = tx-fits p.config p.txs id txs.each less in f.node
      | inr past ↦ let none : (declared p.txs id).node ≡ 0 = ap (λ (t : TxDecl). t.node) (nth-past no_tx p.txs id past) in omega arith
    ]

-- the world that the merged journals lead to
abbrev pub last_world : Plan → Cluster → World
last_world p k = run (start p.config p.txs) (merged p.config k)

-- a live run ends with the plan's transactions
pub txs-same : (p : Plan) (k : Cluster) (es : Events) → IsLive p k es → (last_world p k).txs ≡ p.txs
txs-same p k es h = let m = whole-mirrors p k es h in m.declared

-- a transaction is acknowledged at the end of a live run just if it is at home
pub acked-same : (p : Plan) (k : Cluster) (es : Events) (id : ℕ) → IsLive p k es → is_acked (last_world p k) id ≡ acked_at_home p k id
acked-same p k es id h = let s = replay-book p k es (declared p.txs id).node id h (home-there p k es id h) refl in s.acked

-- a transaction has ended at the end of a live run just if it has at home
pub ended-same : (p : Plan) (k : Cluster) (es : Events) (id : ℕ) → IsLive p k es → is_ended (last_world p k) id ≡ ended_at_home p k id
ended-same p k es id h =
    let w = last_world p k in
    let n = (declared p.txs id).node in
    let there = home-there p k es id h in
    let s = replay-book p k es n id h there refl in
    let stopped : (node w n).stopped ≡ ((home p k id).node).stopped = ap (λ (m : Node). m.stopped) (replay-node p k es n h there) in
    ap (λ (ts : List TxDecl). (record_of w.book id).refused || (node w (declared ts id).node).stopped) (txs-same p k es h)
    ∙ (ap (λ (b : Bool). b || (node w n).stopped) s.refused ∙ ap (λ (b : Bool). (record_of (home p k id).book id).refused || b) stopped)

after-same : (p : Plan) (k : Cluster) (es : Events) (id : ℕ) → IsLive p k es → (tx_decl (last_world p k) id).after ≡ (declared p.txs id).after
after-same p k es id h = ap (λ (ts : List TxDecl). (declared ts id).after) (txs-same p k es h)

in_vain-same : (links : ℕ) (o : Option ℕ) (p : Plan) (k : Cluster) (es : Events) → IsLive p k es → waits_in_vain (last_world p k) links o ≡ in_vain p k links o
unfolding waits_in_vain in_vain
in_vain-same links None p k es h = refl
in_vain-same zero (Some j) p k es h = refl
in_vain-same (suc links) (Some j) p k es h =
    let rest = ap (λ (o : Option ℕ). waits_in_vain (last_world p k) links o) (after-same p k es j h) ∙ in_vain-same links (declared p.txs j).after p k es h in
    rw (acked-same p k es j h, ended-same p k es j h, rest) refl

-- a transaction is closed at the end of a live run just if it is at home
pub closed-same : (p : Plan) (k : Cluster) (es : Events) (id : ℕ) → IsLive p k es → is_closed (last_world p k) id ≡ closed_at_home p k id
unfolding is_closed closed_at_home
closed-same p k es id h =
    let rest = ap (λ (o : Option ℕ). waits_in_vain (last_world p k) id o) (after-same p k es id h) ∙ in_vain-same id (declared p.txs id).after p k es h in
    rw (acked-same p k es id h, ended-same p k es id h, rest) refl

each-same : (ids : List ℕ) (p : Plan) (k : Cluster) (es : Events) → IsLive p k es → each_closed (last_world p k) ids ≡ each_closed_at_home p k ids
unfolding each_closed each_closed_at_home
each-same [] p k es h = refl
each-same (id ∷ ids) p k es h = rw (closed-same p k es id h, each-same ids p k es h) refl

-- all transactions are closed at the end of a live run just if each is at home
pub all_closed-same : (p : Plan) (k : Cluster) (es : Events) → IsLive p k es → all_closed (last_world p k) ≡ all_closed_at_home p k
all_closed-same p k es h =
    ap (λ (ts : List TxDecl). each_closed (last_world p k) (below (length ts))) (txs-same p k es h) ∙ each-same (below (length p.txs)) p k es h
