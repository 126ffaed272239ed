-- The script of a storm: its nodes and objects, and the transactions that are drawn from its words.
use Rattle.std.specs.Prelude.{ℕ, zero, suc, ◌+◌, ◌%◌, ◌==◌, min, List, [], ◌∷◌, ◌++◌, map, codes, decimal, None, if◌then◌else◌}
use Rattle.zeus_base.specs.Nodes.{with_node}
use Rattle.zeus_base.specs.declared.config.Config.{Config}
use Rattle.zeus_base.specs.declared.config.ObjectDecl.{ObjectDecl}
use Rattle.zeus_base.specs.declared.value.Value.TheVariants.{Num}
use Rattle.zeus_txn.specs.declared.ops.Op.{Op}
use Rattle.zeus_txn.specs.declared.ops.Op.TheVariants.{Get, Put, Add, Need}
use Rattle.zeus_txn.specs.declared.tx.TxDecl.{TxDecl}
use Rattle.zeus_model.specs.Tables.{below}
use Rattle.rand_pcg.specs.Lcg.{Lcg}
use Rattle.random_schedule.specs.Words.{pick, words_from}
use Rattle.storm.specs.declared.numbers.StormNumbers.{StormNumbers}

-- the objects are dealt out to the nodes in turn, each with the value 100 and a copy at the node behind its owner
unfoldable pub storm_object : ℕ → ℕ → ObjectDecl
storm_object nodes i =
    record { value = Num 100; owner = i % nodes; replicas = with_node ((i % nodes + 1) % nodes) (with_node (i % nodes) []) }

-- the directory stands on the first three nodes, or on all that there are
abbrev pub storm_config : StormNumbers → Config
storm_config n =
    record {
      version = 1;
      nodes = n.nodes;
      slots = n.slots;
      directory = below (min n.nodes 3);
      degree = None;
      objects = map (storm_object n.nodes) (below n.objects);
    }

-- object i is named `o` and i
unfoldable pub storm_name : ℕ → List ℕ
storm_name i = codes "o" ++ decimal i

-- the names of all objects
abbrev pub storm_names : StormNumbers → List (List ℕ)
storm_names n = map storm_name (below n.objects)

-- ---- the transactions

-- what the words give, and the words behind
abbrev pub Drawn : Type 0 → Type 0
Drawn A = A × Lcg

-- a need, a put of a drawn value from 1 to 1,000, and an add
abbrev pub drawn_move : ℕ → ℕ → Lcg → Drawn (List Op)
drawn_move a b words =
    (Need a 1 ∷ Put a (Num (1 + (pick 1000 words).0)) ∷ Add b 1 ∷ [], (pick 1000 words).1)

-- the operations of a kind on two objects
unfoldable pub drawn_ops : ℕ → ℕ → ℕ → Lcg → Drawn (List Op)
drawn_ops kind a b words =
    if kind == 0 then (Get a ∷ Get b ∷ [], words)
    else (if kind == 1 then (Add a 1 ∷ [], words)
    else (if kind == 2 then (Get a ∷ Add b 2 ∷ [], words)
    else drawn_move a b words))

-- the operations: their kind is drawn first, then the two objects
unfoldable pub drawn_body : ℕ → Lcg → Drawn (List Op)
drawn_body objects words =
    let kind = pick 4 words in
    let a = pick objects kind.1 in
    let b = pick objects a.1 in
    drawn_ops kind.0 a.0 b.0 b.1

-- a transaction: its node is drawn first, then its slot, then its operations; it waits for no other
unfoldable pub drawn_tx : StormNumbers → Lcg → Drawn TxDecl
drawn_tx n words =
    let node = pick n.nodes words in
    let slot = pick n.slots node.1 in
    let body = drawn_body n.objects slot.1 in
    (record { node = node.0; slot = slot.0; after = None; tx = body.0 }, body.1)

-- so many transactions, one after another
unfoldable pub drawn_txs : StormNumbers → ℕ → Lcg → Drawn (List TxDecl)
drawn_txs n zero words = ([], words)
drawn_txs n (suc count) words =
    let first = drawn_tx n words in
    let rest = drawn_txs n count first.1 in
    (first.0 ∷ rest.0, rest.1)

-- the transactions of a storm
abbrev pub storm_txs : StormNumbers → List TxDecl
storm_txs n = (drawn_txs n n.txs (words_from n.start)).0

-- the words that they leave for its schedule
abbrev pub schedule_words : StormNumbers → Lcg
schedule_words n = (drawn_txs n n.txs (words_from n.start)).1
