-- At the start of a run every object is in order and every stream replicated.
use Rattle.std.specs.Prelude.{ℕ, zero, suc, ◌≡◌, ◌+◌, ◌<◌, ◌≤◌, ◌==◌, nat_lt, Bool, true, false, List, [], ◌∷◌, ◌++◌, length, map, replicate, None, All, if◌then◌else◌}
use Rattle.std.proofs.Common.{arith, refl, ap, inl, inr, ◌∙◌, append_assoc}
use Rattle.std.proofs.lemmas.Bool.{cases_lt, lt-ltb}
use Rattle.std.proofs.lemmas.Bool.Decides.{nat_tests}
use Rattle.std.proofs.lemmas.List.Elements.{All-head, All-tail}
use Rattle.zeus_base.specs.Limits.{KeepsLimits, KeepsDeclaration}
use Rattle.zeus_base.specs.Nodes.{has}
use Rattle.zeus_base.specs.NodeLaws.{RisesFrom}
use Rattle.zeus_base.specs.declared.config.Config.{Config}
use Rattle.zeus_base.specs.declared.config.ObjectDecl.{ObjectDecl}
use Rattle.zeus_base.specs.declared.order.Stream.{Stream}
use Rattle.zeus_base.specs.TableLaws.{nth-past}
use Rattle.zeus_packet.specs.declared.letter.Letter.{Letter}
use Rattle.zeus_txn.specs.declared.tx.TxDecl.{TxDecl}
use Rattle.zeus_model.specs.Commit.{as_kept}
use Rattle.zeus_model.specs.Tables.{nth, below, numbers_from}
use Rattle.zeus_model.specs.State.{Node, Slot, StreamLog, no_entry, no_slot, no_log, entry, gather, slot, log}
use Rattle.zeus_model.specs.World.{no_node, start, start_node, start_entry, start_gather}
use Rattle.zeus_model.specs.declared.state.Kept.{Kept}
use Rattle.machine_moves.specs.SystemState.{system, all_of}
use Rattle.machine_moves.specs.Move.{own_kept}
use Rattle.machine_moves.proofs.Lists.{In-nothing, nth-map_numbers, length-map_numbers, nth-replicate, has-numbers_from}
use Rattle.ownership_safety.specs.Kept.{IsStart}
use Rattle.ownership_safety.specs.Object.{first_stamp}
use Rattle.ownership_safety.specs.OwnershipInvariant.{IsPlaced}
use Rattle.ownership_safety.proofs.Start.{start-ownership}
use Rattle.replication_safety.specs.Start.{IsStart as IsStreamStart}
use Rattle.replication_safety.proofs.Start.{start-Replication}
use Rattle.invariants.specs.Objects.{object, about, declared_entry, no_object}
use Rattle.invariants.specs.Streams.{stream_state, done_of, kept_of, about as about_stream}
use Rattle.invariants.proofs.ObjectKeeps.{IsInOrder}
use Rattle.invariants.proofs.StreamKeeps.{IsKept}

-- ---- nothing was sent

unfoldable nothing_of : (A : Type 0) → List A
nothing_of A = []

zero_plus : (n : ℕ) → 0 + n ≡ n
zero_plus n = omega arith

all_of-append : {A : Type 0} (xs ys : List (List A)) → all_of (xs ++ ys) ≡ all_of xs ++ all_of ys
unfolding all_of
all_of-append [] ys = refl
all_of-append (x ∷ xs) ys = rw (all_of-append xs ys, append_assoc) refl

all_of-empty : {A : Type 0} (n : ℕ) → all_of (replicate n (nothing_of A)) ≡ []
unfolding all_of nothing_of
all_of-empty zero = refl
all_of-empty {A = A} (suc n) = all_of-empty {A = A} n

no_letters : (m n : ℕ) → all_of (all_of (replicate m (replicate n (nothing_of Letter)))) ≡ []
unfolding all_of
no_letters zero n = refl
no_letters (suc m) n = all_of-append (replicate n (nothing_of Letter)) (all_of (replicate m (replicate n (nothing_of Letter)))) ∙ rw (all_of-empty {A = Letter} n, no_letters m n) refl

-- at the start no letter was sent
pub start_letters : (c : Config) (txs : List TxDecl) → (system (start c txs)).letters ≡ []
unfolding system start nothing_of
start_letters c txs = no_letters c.nodes c.nodes

-- ---- the nodes at the start

-- at the start each node of the configuration is a start node
pub start_inside : (c : Config) (txs : List TxDecl) (n : ℕ) → n < c.nodes → (system (start c txs)).node n ≡ start_node c n
unfolding system start
start_inside c txs n h = nth-map_numbers no_node (start_node c) 0 c.nodes n h ∙ ap (λ (k : ℕ). start_node c k) (zero_plus n)

-- at the start there is no node past those of the configuration
pub start_outside : (c : Config) (txs : List TxDecl) (n : ℕ) → c.nodes ≤ n → (system (start c txs)).node n ≡ no_node
unfolding system start
start_outside c txs n h = nth-past no_node (map (start_node c) (below c.nodes)) n (omega (arith, length-map_numbers (start_node c) 0 c.nodes, h))

-- the start has the run's configuration, and one view, of all its nodes
pub start_config : (c : Config) (txs : List TxDecl) → ((system (start c txs)).config ≡ c) × ((system (start c txs)).views ≡ below c.nodes ∷ [])
unfolding system start
start_config c txs = (refl, refl)

-- a live node is one of the configuration
pub start_within : (c : Config) (txs : List TxDecl) (n : ℕ) → ((system (start c txs)).node n).stopped ≡ false → n < c.nodes
start_within c txs n live =
    elim (cases_lt n c.nodes) [
      | inl within ↦ within
      | inr past ↦ let stop : no_node.stopped ≡ false = rw (start_outside c txs n past) at live in cc
    ]

-- ---- objects

-- an index within a list reads, in its map by a function, the function of what it reads in the list
pub nth-map : {A B : Type 0} (d : B) (e : A) (f : A → B) (xs : List A) (i : ℕ) → i < length xs → nth d (map f xs) i ≡ f (nth e xs i)
unfolding nth
nth-map d e f [] i h = absurd (omega arith)
nth-map d e f (x ∷ xs) zero h = refl
nth-map d e f (x ∷ xs) (suc i) h = nth-map d e f xs i (omega arith)

no_gathers : (os : List ObjectDecl) (x : ℕ) → nth None (map start_gather os) x ≡ None
unfolding nth start_gather
no_gathers [] x = refl
no_gathers (o ∷ os) zero = refl
no_gathers (o ∷ os) (suc x) = no_gathers os x

All-nth : {A : Type 0} (P : A → Type 0) (d : A) (xs : List A) (i : ℕ) → All P xs → i < length xs → P (nth d xs i)
unfolding nth
All-nth P d [] i h below = absurd (omega arith)
All-nth P d (x ∷ xs) zero h below = All-head P x xs h
All-nth P d (x ∷ xs) (suc i) h below = All-nth P d xs i (All-tail P x xs h) (omega arith)

numbers-rise : (b i n : ℕ) → b ≤ i → RisesFrom b (numbers_from i n)
unfolding RisesFrom numbers_from
numbers-rise b i zero h = tt
numbers-rise b i (suc n) h = (h, numbers-rise (suc i) (suc i) n (omega arith))

start_entries : (c : Config) (n x : ℕ) → x < length c.objects → entry (start_node c n) x ≡ declared_entry c x
unfolding start_node
start_entries c n x h = nth-map no_entry no_object start_entry c.objects x h

start_gathers : (c : Config) (n x : ℕ) → gather (start_node c n) x ≡ None
unfolding start_node
start_gathers c n x = no_gathers c.objects x

declared_start : (c : Config) (x : ℕ) → declared_entry c x ≡ record { stamp = first_stamp; place = (declared_entry c x).place; proposal = None }
unfolding start_entry
declared_start c x = refl

declared_placed : (c : Config) (x : ℕ) → KeepsLimits c → x < length c.objects → IsPlaced (declared_entry c x).place
unfolding start_entry
declared_placed c x keeps h =
    let is : KeepsDeclaration c.version c.nodes (nth no_object c.objects x) = All-nth (KeepsDeclaration c.version c.nodes) no_object c.objects x keeps.declared h in
    record { owner = is.own_copy; rising = is.rising }

object_entry : (c : Config) (txs : List TxDecl) (x n : ℕ) → x < length c.objects → (object (system (start c txs)) x).entry n ≡ declared_entry c x
unfolding object
object_entry c txs x n h =
    rw (start_config c txs).0 (elim (cases_lt n c.nodes) [
      | inl within ↦ rw (lt-ltb n c.nodes within, start_inside c txs n within) (start_entries c n x h)
      | inr past ↦ let not_less : nat_lt n c.nodes ≡ false = grind (arith, nat_tests) in rw not_less refl
    ])

object_gather : (c : Config) (txs : List TxDecl) (x n : ℕ) → (object (system (start c txs)) x).gather n ≡ None
unfolding object
object_gather c txs x n =
    rw (start_config c txs).0 (elim (cases_lt n c.nodes) [
      | inl within ↦ rw (lt-ltb n c.nodes within, start_inside c txs n within) (start_gathers c n x)
      | inr past ↦ let not_less : nat_lt n c.nodes ≡ false = grind (arith, nat_tests) in rw not_less refl
    ])

start_epoch : (c : Config) (txs : List TxDecl) (n : ℕ) → n < c.nodes → ((system (start c txs)).node n).epoch ≡ 1
unfolding start_node
start_epoch c txs n h = ap (λ (k : Node). k.epoch) (start_inside c txs n h)

-- what the object knows of its standing at the start
pub object_standing : (c : Config) (txs : List TxDecl) (x : ℕ)
    → ((object (system (start c txs)) x).views ≡ below c.nodes ∷ []) × ((object (system (start c txs)) x).declared ≡ (declared_entry c x).place)
    × ((object (system (start c txs)) x).letters ≡ [])
unfolding object about
object_standing c txs x =
    ((start_config c txs).1, ap (λ (k : Config). (declared_entry k x).place) (start_config c txs).0, rw (start_letters c txs) refl)

object_live : (c : Config) (txs : List TxDecl) (x n : ℕ) → (object (system (start c txs)) x).stopped n ≡ false
    → ((object (system (start c txs)) x).epoch n ≡ 1) × (has n (below c.nodes) ≡ true)
unfolding object
object_live c txs x n live =
    let within : n < c.nodes = start_within c txs n live in
    (start_epoch c txs n within, has-numbers_from n 0 c.nodes (omega arith) (omega arith))

-- if a configuration keeps its limits, then each of its objects is at the start as in the beginning
pub begins_object : (c : Config) (txs : List TxDecl) (x : ℕ) → KeepsLimits c → x < length c.objects → IsStart (object (system (start c txs)) x)
begins_object c txs x keeps h =
    let standing = object_standing c txs x in
    record {
      declared = rw standing.1 (declared_placed c x keeps h);
      members = below c.nodes;
      rising = numbers-rise 0 0 c.nodes (omega arith);
      views = standing.0;
      letters = standing.2;
      entry = λ n. object_entry c txs x n h ∙ declared_start c x ∙ rw standing.1 refl;
      gather = λ n. object_gather c txs x n;
      epoch = λ n live. (object_live c txs x n live).0;
      member = λ n live. (object_live c txs x n live).1;
    }

-- an object at the start
pub start_object : (c : Config) (txs : List TxDecl) (x : ℕ) → KeepsLimits c → x < length c.objects → IsInOrder (object (system (start c txs)) x)
start_object c txs x keeps h = ([], start-ownership (object (system (start c txs)) x) (begins_object c txs x keeps h))

-- ---- streams

-- any index of a list of the default repeated reads the default
pub nth-none : {A : Type 0} (d : A) (n k : ℕ) → nth d (replicate n d) k ≡ d
nth-none d n k = elim (nth-replicate d d n k) [ inl same ↦ same | inr past ↦ past ]

no_row : (m n i k : ℕ) → nth no_log (nth [] (replicate m (replicate n no_log)) i) k ≡ no_log
no_row m n i k =
    elim (nth-replicate [] (replicate n no_log) m i) [
      | inl row ↦ rw row (nth-none no_log n k)
      | inr past ↦ rw past (nth-past no_log [] k (omega arith))
    ]

-- a start node has only empty slots
pub start_slots : (c : Config) (n s : ℕ) → slot (start_node c n) s ≡ no_slot
unfolding start_node
start_slots c n s = nth-none no_slot c.slots s

-- a start node has stored nothing of any stream
pub start_logs : (c : Config) (n : ℕ) (t : Stream) → log (start_node c n) t ≡ no_log
unfolding start_node
start_logs c n t = no_row c.nodes c.slots t.node t.slot

-- where there is no node there are only empty slots
pub nowhere_slots : (s : ℕ) → slot no_node s ≡ no_slot
nowhere_slots s = nth-past no_slot [] s (omega arith)

-- where there is no node nothing of any stream is stored
pub nowhere_logs : (t : Stream) → log no_node t ≡ no_log
nowhere_logs t = ap (λ (ls : List StreamLog). nth no_log ls t.slot) (nth-past [] [] t.node (omega arith)) ∙ nth-past no_log [] t.slot (omega arith)

-- a node that has nothing of the stream
nothing_kept : (n : Node) (t : Stream) (k : ℕ) → slot n t.slot ≡ no_slot → log n t ≡ no_log → (done_of n t k ≡ 0) × (kept_of n t k ≡ [])
unfolding done_of kept_of own_kept
nothing_kept n t k s l = (
  ap (λ (z : Slot). if k == t.node then z.done else (log n t).done) s ∙ ap (λ (z : StreamLog). if k == t.node then 0 else z.done) l ∙ either (k == t.node) 0,
  ap (λ (z : Slot). if k == t.node then map as_kept z.pending else (log n t).kept) s ∙ ap (λ (z : StreamLog). if k == t.node then [] else z.kept) l ∙ either_list (k == t.node) [],
)
  where
    either : (b : Bool) (z : ℕ) → (if b then z else z) ≡ z
    either true z = refl
    either false z = refl

    either_list : (b : Bool) (z : List Kept) → (if b then z else z) ≡ z
    either_list true z = refl
    either_list false z = refl

-- at the start no entry of a stream has passed, and no node has any
pub kept_at_start : (c : Config) (txs : List TxDecl) (t : Stream) (n : ℕ) → ((stream_state (system (start c txs)) t).done n ≡ 0) × ((stream_state (system (start c txs)) t).kept n ≡ [])
unfolding stream_state
kept_at_start c txs t n =
    elim (cases_lt n c.nodes) [
      | inl within ↦ rw (start_inside c txs n within) (nothing_kept (start_node c n) t n (start_slots c n t.slot) (start_logs c n t))
      | inr past ↦ rw (start_outside c txs n past) (nothing_kept no_node t n (nowhere_slots t.slot) (nowhere_logs t))
    ]

epoch_bounded : (c : Config) (txs : List TxDecl) (n : ℕ) → ((system (start c txs)).node n).epoch ≤ 1
epoch_bounded c txs n =
    elim (cases_lt n c.nodes) [
      | inl within ↦ let first = start_epoch c txs n within in omega arith
      | inr past ↦ rw (start_outside c txs n past) (omega arith)
    ]

-- each stream is at the start as in the beginning
pub begins_stream : (c : Config) (txs : List TxDecl) (t : Stream) → IsStreamStart (stream_state (system (start c txs)) t)
unfolding stream_state about_stream nth
begins_stream c txs t =
    record {
      unsaid = λ x i. In-nothing x (rw (start_letters c txs) at i);
      one_view = ap (λ (vs : List (List ℕ)). length vs) (start_config c txs).1;
      live = λ n live.
          let within : n < c.nodes = start_within c txs n live in
          (start_epoch c txs n within, rw (start_config c txs).1 (has-numbers_from n 0 c.nodes (omega arith) (omega arith)));
      bounded = λ n. epoch_bounded c txs n;
      done = λ n. (kept_at_start c txs t n).0;
      kept = λ n. (kept_at_start c txs t n).1;
    }

-- a stream at the start
pub start_stream : (c : Config) (txs : List TxDecl) (t : Stream) → IsKept (stream_state (system (start c txs)) t)
start_stream c txs t = (0, start-Replication (stream_state (system (start c txs)) t) (begins_stream c txs t))
