-- Versions stay few while the history is run one after another, and what is left of it shrinks by its first transaction.
use Rattle.std.proofs.Common.{ℕ, zero, suc, ◌≡◌, ◌<◌, ◌≤◌, ◌+◌, ◌*◌, List, [], ◌∷◌, inl, inr, length, map, drop, drop-cons, get_or, refl, sym, ap, ◌∙◌, subst, arith, add-one}
use Rattle.std.specs.List.{All}
use Rattle.std.specs.Prelude.{Some, None, slice_get}
use Rattle.std.proofs.lemmas.List.Elements.{All-weaker}
use Rattle.std.proofs.lemmas.List.{drop_all}
use Rattle.std.proofs.lemmas.Option.{slice_get_within}
use Rattle.zeus_base.specs.TableLaws.{nth-put_same, nth-put_other, nth_found, nth_none}
use Rattle.zeus_base.specs.declared.config.Config.{Config}
use Rattle.zeus_base.specs.declared.config.ObjectDecl.{ObjectDecl}
use Rattle.zeus_base.specs.declared.value.Value.{Value}
use Rattle.zeus_txn.specs.Map.{applied_map, content, declared_content, no_content, run_at, start_map, written_map}
use Rattle.zeus_txn.specs.Ops.{named}
use Rattle.zeus_txn.specs.Tx.{IsTx}
use Rattle.zeus_txn.specs.declared.map.Versioned.{Versioned}
use Rattle.zeus_txn.specs.declared.ops.Op.{Op}
use Rattle.zeus_model.specs.Book.{Point}
use Rattle.zeus_model.specs.Serial.{serial_map}
use Rattle.zeus_model.specs.Sound.{history_txs}
use Rattle.zeus_model.specs.Tables.{nth, put}
use Rattle.zeus_model.specs.World.{World, tx_decl}
use Rattle.history_book.proofs.History.{equal_or_not}
use Rattle.node_ranges.specs.Transactions.{FitsTx-declared}
use Rattle.reached_worlds.specs.Ranged.{IsRanged}
use Rattle.reached_worlds.proofs.Ranging.{tx_fits}
use Rattle.zeus_txn.specs.Run.{run, run_from}
use Rattle.zeus_txn.specs.declared.tx.TxDecl.{TxDecl}
use Rattle.zeus_model.specs.World.{no_tx}
use Rattle.node_ranges.specs.RunValues.{run-few}
use Rattle.zeus_world.specs.Serial.{HasVersions, no_point, ops_at}

put_few : (m : List Versioned) (k : ℕ) (v : Value) (b y : ℕ) → ((x : ℕ) → (content m x).ver ≤ b) → (content (put no_content m k record { ver = (content m k).ver + 1; value = v }) y).ver ≤ suc b
put_few m k v b y h =
    elim (equal_or_not k y) [
      | inl same ↦ let at = h k in rw (← same, nth-put_same no_content m k record { ver = (content m k).ver + 1; value = v }) (omega arith)
      | inr other ↦ let at = h y in rw (nth-put_other no_content m k y record { ver = (content m k).ver + 1; value = v } other) (omega arith)
    ]

-- each write raises one version by one
written_few : (ws : List (ℕ × Value)) (m : List Versioned) (b y : ℕ) → ((x : ℕ) → (content m x).ver ≤ b) → (content (written_map m ws) y).ver ≤ length ws + b
unfolding written_map
written_few [] m b y h = let at = h y in omega arith
written_few (w ∷ ws) m b y h =
    let rest = written_few ws (put no_content m w.0 record { ver = (content m w.0).ver + 1; value = w.1 }) (suc b) y (λ x. put_few m w.0 w.1 b x h) in
    omega arith

put_least : (m : List Versioned) (k : ℕ) (v : Versioned) → length m ≤ length (put no_content m k v)
unfolding put
put_least [] k v = omega arith
put_least (x ∷ m) zero v = omega arith
put_least (x ∷ m) (suc k) v = let rest = put_least m k v in omega arith

-- no object goes
written_least : (ws : List (ℕ × Value)) (m : List Versioned) → length m ≤ length (written_map m ws)
unfolding written_map
written_least [] m = omega arith
written_least (w ∷ ws) m =
    let v : Versioned = record { ver = (content m w.0).ver + 1; value = w.1 } in
    let here = put_least m w.0 v in
    let rest = written_least ws (put no_content m w.0 v) in
    omega arith

-- if no version is above what k transactions can make, then one more that names at most 8 objects leaves none above what k + 1 can
pub versions_after : (o k : ℕ) (m : List Versioned) (tx : List Op) → HasVersions o k m → length (named tx) ≤ 8 → HasVersions o (k + 1) (applied_map m tx)
versions_after o k m tx h few =
    let writes = run-few (λ x. (content m x).value) tx in
    let least = written_least (run_at m tx).writes m in
    let size = h.size in
    record {
      size = omega arith;
      few = λ x. let all = written_few (run_at m tx).writes m (8 * k) x h.few in omega arith;
    }

start_vers : (os : List ObjectDecl) (x : ℕ) → (content (map declared_content os) x).ver ≤ 0
unfolding nth declared_content
start_vers [] x = omega arith
start_vers (o ∷ os) zero = omega arith
start_vers (o ∷ os) (suc x) = start_vers os x

start_size : (os : List ObjectDecl) → length os ≤ length (map declared_content os)
start_size [] = omega arith
start_size (o ∷ os) = let rest = start_size os in omega arith

-- at the start no version is past 0
pub versions_start : (c : Config) → HasVersions (length c.objects) 0 (start_map c)
unfolding start_map
versions_start c = record { size = start_size c.objects; few = start_vers c.objects }

next_left : (w : World) (m : List Versioned) (place : ℕ) (ps : List Point) → place < length ps
    → serial_map (applied_map m (tx_decl w (nth no_point ps place).id).tx) (history_txs w (drop (suc place) ps)) ≡ serial_map m (history_txs w (drop place ps))
unfolding history_txs serial_map nth
next_left w m place [] h = absurd (omega arith)
next_left w m zero (p ∷ ps) h = refl
next_left w m (suc place) (p ∷ ps) h = next_left w m place ps (omega arith)

-- what is left of the history begins with the transaction of the point at this place
pub history_step : (w : World) (m : List Versioned) (place : ℕ) → place < length w.book.points
    → serial_map (applied_map m (ops_at w place)) (history_txs w (drop (place + 1) w.book.points)) ≡ serial_map m (history_txs w (drop place w.book.points))
unfolding ops_at
history_step w m place h = rw add-one (next_left w m place w.book.points h)

-- a transaction that can be read off the list is the point's
pub ops_there : (w : World) (place : ℕ) (p : Point) (t : TxDecl) → slice_get w.book.points place ≡ Some p → Some t ≡ slice_get w.txs p.id → ops_at w place ≡ t.tx
unfolding ops_at
ops_there w place p t point tx = ap (λ (q : Point). (tx_decl w q.id).tx) (nth_found no_point w.book.points place p (sym point)) ∙ ap (λ (d : TxDecl). d.tx) (nth_found no_tx w.txs p.id t tx)

-- if the point at a place is of no declared transaction, then there are no operations at that place
pub ops_none : (w : World) (place : ℕ) (p : Point) → slice_get w.book.points place ≡ Some p → None ≡ slice_get w.txs p.id → ops_at w place ≡ []
unfolding ops_at
ops_none w place p point tx = ap (λ (q : Point). (tx_decl w q.id).tx) (nth_found no_point w.book.points place p (sym point)) ∙ ap (λ (d : TxDecl). d.tx) (nth_none no_tx w.txs p.id tx)

-- no operations change nothing
pub applied_none : (m : List Versioned) → applied_map m [] ≡ m
unfolding run run_from written_map
applied_none m = refl

-- a transaction that there is names objects of the map, few of them
pub names_objects : (w : World) (k : ℕ) (t : TxDecl) (m : List Versioned) → IsRanged w → Some t ≡ slice_get w.txs k → length w.config.objects ≤ length m → All (λ x. x < length m) (named t.tx)
names_objects w k t m r is size =
    let fits = tx_fits w k r (slice_get_within w.txs k t (sym is)) in
    let same : tx_decl w k ≡ t = nth_found no_tx w.txs k t is in
    let each : All (λ x. x < length w.config.objects) (named t.tx) = rw same at (FitsTx-declared w.config k (tx_decl w k) fits).named in
    All-weaker (λ x. x < length w.config.objects) (λ x. x < length m) (λ x less. omega arith) (named t.tx) each

-- a declared transaction of a ranged world names at most 8 objects
pub names_few : (w : World) (k : ℕ) (t : TxDecl) → IsRanged w → Some t ≡ slice_get w.txs k → length (named t.tx) ≤ 8
names_few w k t r is =
    let fits = tx_fits w k r (slice_get_within w.txs k t (sym is)) in
    let same : tx_decl w k ≡ t = nth_found no_tx w.txs k t is in
    rw same at fits.tx.objects

-- past the last point nothing is left
pub none_left : (w : World) (m : List Versioned) (place : ℕ) → length w.book.points ≤ place → serial_map m (history_txs w (drop place w.book.points)) ≡ m
unfolding history_txs serial_map
none_left w m place h = rw (drop_all place w.book.points h) refl
