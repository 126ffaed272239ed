-- A world at the start of a run.
use Rattle.std.proofs.Common.{ℕ, zero, suc, ◌≡◌, ◌<◌, ◌+◌, ◌++◌, List, [], ◌∷◌, length, map, replicate, refl, sym, ap, ◌∙◌, arith}
use Rattle.zeus_base.specs.declared.config.Config.{Config}
use Rattle.zeus_packet.specs.declared.letter.Letter.{Letter}
use Rattle.zeus_txn.specs.declared.tx.TxDecl.{TxDecl}
use Rattle.zeus_model.specs.Book.{Book, no_record}
use Rattle.zeus_model.specs.State.{Node}
use Rattle.zeus_model.specs.Tables.{below, nth, numbers_from}
use Rattle.zeus_model.specs.World.{World, start, start_node}
use Rattle.history_book.specs.Books.{BookState}
use Rattle.lossy_fabric.specs.Links.{LinkState, letters, letters_of, no_link, row_letters}

map_push : {A : Type 0} (f : ℕ → A) (i n : ℕ) → map f (numbers_from i n) ++ f (i + n) ∷ [] ≡ map f (numbers_from i (suc n))
unfolding numbers_from
map_push f i zero = let e : i + 0 ≡ i = omega arith in rw e refl
map_push f i (suc n) = let e : i + suc n ≡ suc i + n = omega arith in rw e (ap (λ xs. f i ∷ xs) (map_push f (suc i) n))

-- the nodes below the next number
pub map_below : {A : Type 0} (f : ℕ → A) (n : ℕ) → map f (below n) ++ f n ∷ [] ≡ map f (below (n + 1))
map_below f n =
    let e : 0 + n ≡ n = omega arith in
    let s : n + 1 ≡ suc n = omega arith in
    let all : map f (below n) ++ f (0 + n) ∷ [] ≡ map f (below (suc n)) = map_push f 0 n in
    rw s (rw e at all)

row_none : (n : ℕ) → row_letters (replicate n no_link) ≡ replicate n []
unfolding row_letters letters_of
row_none zero = refl
row_none (suc n) = ap (λ (r : List (List Letter)). [] ∷ r) (row_none n)

rows_none : (m n : ℕ) → letters (replicate m (replicate n no_link)) ≡ replicate m (replicate n [])
unfolding letters
rows_none zero n = refl
rows_none (suc m) n = ap (λ (r : List (List Letter)). r ∷ letters (replicate m (replicate n no_link))) (row_none n) ∙ ap (λ (rs : List (List (List Letter))). replicate n [] ∷ rs) (rows_none m n)

-- the world of a configuration, transactions, nodes, links, views and book
abbrev pub world_made : Config → List TxDecl → List Node → List (List (List Letter)) → List (List ℕ) → Book → World
world_made c txs nodes links views book = record { config = c; txs = txs; nodes = nodes; links = links; views = views; book = book }

-- what a run is made of at its start
pub started : (c : Config) (txs : List TxDecl) (nodes : List Node) (L : List (List LinkState)) (views : List (List ℕ)) (b : BookState) → nodes ≡ map (start_node c) (below c.nodes)
    → L ≡ replicate c.nodes (replicate c.nodes no_link) → views ≡ below c.nodes ∷ []
    → b ≡ record { book = record { steps = 0; points = []; records = replicate (length txs) no_record }; nodes = c.nodes; slots = c.slots }
    → world_made c txs nodes (letters L) views b.book ≡ start c txs
unfolding start
started c txs nodes L views b e f g k = rw (e, f, g, k, rows_none c.nodes c.nodes) refl
