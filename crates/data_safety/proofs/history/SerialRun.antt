-- The history with one transaction more, and entries whose transactions find what they found.
use Rattle.std.specs.Prelude.{ℕ, ◌≡◌, ◌+◌, ◌-◌, true, List, [], ◌∷◌, ◌++◌}
use Rattle.std.proofs.Common.{arith, refl, sym, ap, ◌∙◌}
use Rattle.zeus_base.specs.declared.config.Config.{Config}
use Rattle.zeus_base.specs.declared.order.Stream.{Stream}
use Rattle.zeus_packet.specs.declared.write.Content.{Content}
use Rattle.zeus_packet.specs.declared.write.Write.{Write}
use Rattle.zeus_txn.specs.Map.{run_at, applied_map}
use Rattle.zeus_txn.specs.Ops.{mentions, named}
use Rattle.zeus_txn.specs.Run.{run}
use Rattle.zeus_txn.specs.RunLaws.{AreOf, run-are_of, run-agree}
use Rattle.zeus_txn.specs.declared.map.Versioned.{Versioned}
use Rattle.zeus_txn.specs.declared.ops.Op.{Op}
use Rattle.zeus_txn.specs.declared.reply.Ran.{Ran}
use Rattle.zeus_txn.specs.declared.reply.Reply.{Reply}
use Rattle.zeus_txn.specs.declared.tx.TxDecl.{TxDecl}
use Rattle.zeus_model.specs.Book.{Point}
use Rattle.zeus_model.specs.Serial.{content, start_map, serial_map, serial_replies}
use Rattle.zeus_model.specs.Sound.{replies_of, times}
use Rattle.zeus_model.specs.Tables.{nth}
use Rattle.zeus_model.specs.World.{no_tx}
use Rattle.zeus_model.specs.declared.state.Pending.{Pending}
use Rattle.data_safety.specs.RunState.{RunState, Witness, tx_ops, txs_of, pending_at, overwritten, running}
use Rattle.data_safety.specs.DataInvariant.{left, found_at, raised, IsRun}
use Rattle.data_safety.proofs.history.SerialContents.{serial_map-append, serial_replies-append, content_in, written_map-contents, raised-agree}

-- ---- one point more

-- the transactions of points and one more are those of the points, and that of the one more
pub txs_of-append : (y : RunState) (ps : List Point) (p : Point) → txs_of y (ps ++ p ∷ []) ≡ txs_of y ps ++ tx_ops y p.id ∷ []
unfolding txs_of
txs_of-append y [] p = refl
txs_of-append y (q ∷ ps) p = ap (λ (l : List (List Op)). tx_ops y q.id ∷ l) (txs_of-append y ps p)

-- if the declared transactions stay, then so do the operations of each
pub tx_ops-same : (y z : RunState) (id : ℕ) → z.txs ≡ y.txs → tx_ops z id ≡ tx_ops y id
tx_ops-same y z id e = ap (λ (l : List TxDecl). (nth no_tx l id).tx) e

-- if the declared transactions stay, then so do the transactions of points
pub txs_of-same : (y z : RunState) (ps : List Point) → z.txs ≡ y.txs → txs_of z ps ≡ txs_of y ps
unfolding txs_of
txs_of-same y z [] e = refl
txs_of-same y z (q ∷ ps) e = rw (tx_ops-same y z q.id e, txs_of-same y z ps e) refl

-- the replies of points and one more are those of the points, and that of the one more
pub replies_of-append : (ps : List Point) (p : Point) → replies_of (ps ++ p ∷ []) ≡ replies_of ps ++ p.reply ∷ []
unfolding replies_of
replies_of-append [] p = refl
replies_of-append (q ∷ ps) p = ap (λ (l : List Reply). q.reply ∷ l) (replies_of-append ps p)

-- a transaction is among points and one more as often as among the points, and once more if it is that one
pub times-append : (id : ℕ) (ps : List Point) (p : Point) → times id (ps ++ p ∷ []) ≡ times id ps + times id (p ∷ [])
unfolding times
times-append id [] p = omega arith
times-append id (q ∷ ps) p = let rest = times-append id ps p in grind arith

-- ---- what the history leaves

-- the map that the history leaves
abbrev pub map_of : RunState → List Versioned
map_of y = serial_map (start_map y.system.config) (txs_of y y.book.points)

-- a run with the same transactions and the same history leaves the same
pub left-same : (y z : RunState) (x : ℕ) → z.system.config ≡ y.system.config → z.txs ≡ y.txs → z.book.points ≡ y.book.points → left z x ≡ left y x
unfolding left
left-same y z x config txs points = ap (λ (m : List Versioned). content_in m x) (map-same y z config txs points)
  where
    map-same : (y z : RunState) → z.system.config ≡ y.system.config → z.txs ≡ y.txs → z.book.points ≡ y.book.points → map_of z ≡ map_of y
    map-same y z config txs points =
        ap (λ (c : Config). serial_map (start_map c) (txs_of z z.book.points)) config
        ∙ ap (λ (l : List (List Op)). serial_map (start_map y.system.config) l) (txs_of-same y z z.book.points txs ∙ ap (λ (ps : List Point). txs_of y ps) points)

-- a run in which a transaction has had its point behind the history
pub record HasPointed (y z : RunState) (p : Point) : Type 0 where
  pub config : z.system.config ≡ y.system.config
  pub txs : z.txs ≡ y.txs
  pub points : z.book.points ≡ y.book.points ++ p ∷ []

pointed-txs : (y z : RunState) (p : Point) → HasPointed y z p → txs_of z z.book.points ≡ txs_of y y.book.points ++ tx_ops y p.id ∷ []
pointed-txs y z p h = txs_of-same y z z.book.points h.txs ∙ ap (λ (ps : List Point). txs_of y ps) h.points ∙ txs_of-append y y.book.points p

pointed-map : (y z : RunState) (p : Point) → HasPointed y z p → map_of z ≡ applied_map (map_of y) (tx_ops y p.id)
pointed-map y z p h =
    ap (λ (c : Config). serial_map (start_map c) (txs_of z z.book.points)) h.config
    ∙ ap (λ (l : List (List Op)). serial_map (start_map y.system.config) l) (pointed-txs y z p h)
    ∙ serial_map-append (start_map y.system.config) (txs_of y y.book.points) (tx_ops y p.id)

-- its writes are those of a run on what the history has left
pub pointed-left : (y z : RunState) (p : Point) (x : ℕ) → HasPointed y z p
    → left z x ≡ overwritten (left y) (raised (left y) (run (λ k. (left y k).value) (tx_ops y p.id)).writes) x
unfolding left
pointed-left y z p x h =
    ap (λ (m : List Versioned). content_in m x) (pointed-map y z p h)
    ∙ written_map-contents (map_of y) (run_at (map_of y) (tx_ops y p.id)).writes x (run-are_of (λ k. (content (map_of y) k).value) (tx_ops y p.id)).distinct

-- the replies stay those of a serial run where the reply is that of a run on what the history has left
pub pointed-replies : (y z : RunState) (p : Point) → HasPointed y z p → (run (λ k. (left y k).value) (tx_ops y p.id)).reply ≡ p.reply
    → replies_of y.book.points ≡ serial_replies (start_map y.system.config) (txs_of y y.book.points)
    → replies_of z.book.points ≡ serial_replies (start_map z.system.config) (txs_of z z.book.points)
unfolding left
pointed-replies y z p h reply before =
    ap (λ (ps : List Point). replies_of ps) h.points ∙ replies_of-append y.book.points p
    ∙ ap (λ (l : List Reply). l ++ p.reply ∷ []) before
    ∙ ap (λ (r : Reply). serial_replies (start_map y.system.config) (txs_of y y.book.points) ++ r ∷ []) (sym reply)
    ∙ sym (serial_replies-append (start_map y.system.config) (txs_of y y.book.points) (tx_ops y p.id))
    ∙ ap (λ (l : List (List Op)). serial_replies (start_map y.system.config) l) (sym (pointed-txs y z p h))
    ∙ ap (λ (c : Config). serial_replies (start_map c) (txs_of z z.book.points)) (sym h.config)

-- ---- entries

-- the first unpassed entry finds what the history leaves
pub found_at-first : (y : RunState) (u : Witness) (t : Stream) (k : ℕ) → k ≡ u.passed t → found_at y u t k ≡ left y
unfolding found_at running
found_at-first y u t k e =
    let none : k - u.passed t ≡ 0 = omega arith in
    ap (λ (m : ℕ). running (left y) (λ j. (pending_at y t (u.passed t + j)).writes) m) none

-- where the first unpassed entry has its point, the history leaves its writes
pub first-left : (y z : RunState) (u : Witness) (t : Stream) (k x : ℕ) (p : Point) → HasPointed y z p → k ≡ u.passed t → p.id ≡ (pending_at y t k).id → IsRun y u t k
    → left z x ≡ overwritten (left y) (pending_at y t k).writes x
first-left y z u t k x p h first id is =
    let found : found_at y u t k ≡ left y = found_at-first y u t k first in
    let writes : raised (left y) (run (λ j. (left y j).value) (tx_ops y (pending_at y t k).id)).writes ≡ (pending_at y t k).writes = rw found at is.writes in
    pointed-left y z p x h
    ∙ ap (λ (j : ℕ). overwritten (left y) (raised (left y) (run (λ i. (left y i).value) (tx_ops y j)).writes) x) id
    ∙ ap (λ (ws : List Write). overwritten (left y) ws x) writes

-- if a serial history gets the point of a stream's first unpassed entry, with its reply, then it is still serial
pub first-replies : (y z : RunState) (u : Witness) (t : Stream) (k : ℕ) (p : Point) → HasPointed y z p → k ≡ u.passed t → p.id ≡ (pending_at y t k).id
    → p.reply ≡ (pending_at y t k).reply → IsRun y u t k
    → replies_of y.book.points ≡ serial_replies (start_map y.system.config) (txs_of y y.book.points)
    → replies_of z.book.points ≡ serial_replies (start_map z.system.config) (txs_of z z.book.points)
first-replies y z u t k p h first id reply is before =
    let found : found_at y u t k ≡ left y = found_at-first y u t k first in
    let same : (run (λ j. (left y j).value) (tx_ops y (pending_at y t k).id)).reply ≡ (pending_at y t k).reply = rw found at is.reply in
    pointed-replies y z p h (ap (λ (j : ℕ). (run (λ i. (left y i).value) (tx_ops y j)).reply) id ∙ same ∙ sym reply) before

-- an entry stays what its transaction makes of what it finds, where it finds the same of the objects that it names
pub IsRun-agree : (y z : RunState) (u v : Witness) (t : Stream) (k : ℕ) → pending_at z t k ≡ pending_at y t k → z.txs ≡ y.txs
    → ((x : ℕ) → mentions x (named (tx_ops y (pending_at y t k).id)) ≡ true → found_at z v t k x ≡ found_at y u t k x)
    → IsRun y u t k → IsRun z v t k
IsRun-agree y z u v t k entry txs same is =
    let ops : tx_ops z (pending_at z t k).id ≡ tx_ops y (pending_at y t k).id = tx_ops-same y z (pending_at z t k).id txs ∙ ap (λ (p : Pending). tx_ops y p.id) entry in
    let ran : run (λ x. (found_at z v t k x).value) (tx_ops y (pending_at y t k).id) ≡ run (λ x. (found_at y u t k x).value) (tx_ops y (pending_at y t k).id) =
    run-agree (λ x. (found_at z v t k x).value) (λ x. (found_at y u t k x).value) (tx_ops y (pending_at y t k).id) (λ x h. ap (λ (c : Content). c.value) (same x h)) in
    let now : run (λ x. (found_at z v t k x).value) (tx_ops z (pending_at z t k).id) ≡ run (λ x. (found_at y u t k x).value) (tx_ops y (pending_at y t k).id) =
    ap (λ (l : List Op). run (λ x. (found_at z v t k x).value) l) ops ∙ ran in
    let are : AreOf (named (tx_ops y (pending_at y t k).id)) (run (λ x. (found_at y u t k x).value) (tx_ops y (pending_at y t k).id)).writes =
    run-are_of (λ x. (found_at y u t k x).value) (tx_ops y (pending_at y t k).id) in
    record {
      reply = ap (λ (r : Ran). r.reply) now ∙ is.reply ∙ ap (λ (p : Pending). p.reply) (sym entry);
      writes = ap (λ (r : Ran). raised (found_at z v t k) r.writes) now
          ∙ raised-agree (found_at z v t k) (found_at y u t k) (run (λ x. (found_at y u t k x).value) (tx_ops y (pending_at y t k).id)).writes (λ x h. same x (are.named x h))
          ∙ is.writes ∙ ap (λ (p : Pending). p.writes) (sym entry);
    }
