-- From one run to another by moves of one node, which ends as a certain node, has sent certain letters and has left a certain book.
use Rattle.std.specs.Prelude.{ℕ, ◌≡◌, List, [], ◌++◌, take}
use Rattle.std.proofs.Common.{arith, refl}
use Rattle.zeus_packet.specs.declared.letter.Letter.{Letter}
use Rattle.zeus_txn.specs.declared.tx.TxDecl.{TxDecl}
use Rattle.zeus_model.specs.In.{In}
use Rattle.zeus_model.specs.State.{Node}
use Rattle.zeus_model.specs.Book.{Book, counted}
use Rattle.machine_moves.specs.SystemState.{SystemState, IsLive, Changes, nothing}
use Rattle.machine_moves.specs.Move.{Move, next, IsTellable}
use Rattle.machine_moves.specs.Plain.{PlainMoves, stays, moves_on}
use Rattle.machine_moves.proofs.Lists.{In-nothing}
use Rattle.machine_moves.proofs.Within.{Keeps, Keeps-trans}
use Rattle.machine_moves.proofs.Reach.{Became, Became-changed, Changes-became, Same-became, Became-trans, changed, Leads, PlainReaches, IsReady, ready_after, still_reaches, tells_at}
use Rattle.data_safety.specs.RunState.{RunState}
use Rattle.data_safety.specs.RunMoves.{RunMove, RunMoves, plain, stutters, ended, onward}

-- the run with another system and another book
abbrev pub told_as : RunState → SystemState → Book → RunState
told_as y s b = record { system = s; txs = y.txs; book = b }

-- moves lead from one run to another
pub record RunLeads (y z : RunState) : Type 0 where
  pub on : (u : RunState) → RunMoves z u → RunMoves y u

-- moves of the node lead to a system and a book
pub record Arrives (y : RunState) (n : ℕ) (after : Node) (sent : List Letter) (book : Book) : Type 0 where
  pub system : SystemState
  pub became : Became y.system system n after sent
  pub moves : Leads y.system system
  pub keeps : Keeps (y.system.node n) after
  pub leads : RunLeads y (told_as y system book)

-- plain moves leave the book as it is
plain_leads : (s t : SystemState) (txs : List TxDecl) (book : Book) → PlainMoves s t → RunLeads record { system = s; txs = txs; book = book } record { system = t; txs = txs; book = book }
plain_leads s t txs book (stays _) = record { on = λ u ms. ms }
plain_leads s t txs book (moves_on _ mid _ move is rest) =
    let later = plain_leads mid t txs book rest in
    record {
      on = λ u ms. onward record { system = s; txs = txs; book = book } record { system = mid; txs = txs; book = book } u (plain move is refl refl) (later.on u ms);
    }

-- if plain moves reach a node, then moves of the run lead there and leave the book
pub plain_arrives : (y : RunState) (n : ℕ) (after : Node) (sent : List Letter) → PlainReaches y.system n after sent → Arrives y n after sent y.book
plain_arrives y n after sent r =
    let l = r.leads in
    record {
      system = r.system;
      became = r.became;
      moves = record { on = l.on; plainly = λ asked. absurd cc };
      keeps = r.keeps;
      leads = plain_leads y.system r.system y.txs y.book (l.plainly refl);
    }

-- where nothing is done, the run stays as it is
pub still_arrives : (y : RunState) (n : ℕ) → Arrives y n (y.system.node n) [] y.book
still_arrives y n = plain_arrives y n (y.system.node n) [] (still_reaches y.system n)

-- one move that sends nothing
pub quiet_arrives : (y : RunState) (n : ℕ) (after : Node) (book : Book) → IsLive y.system n → Keeps (y.system.node n) after
    → (Changes y.system (changed y.system n after []) n after nothing → Move y.system (changed y.system n after []))
    → (Changes y.system (changed y.system n after []) n after nothing → RunMove y (told_as y (changed y.system n after []) book)) → Arrives y n after [] book
quiet_arrives y n after book live k move run_state =
    let t = changed y.system n after [] in
    let ch = Changes-became y.system t n after [] nothing live (Became-changed y.system n after []) (λ l i. In-nothing l i) in
    record {
      system = t;
      became = Became-changed y.system n after [];
      moves = record { on = λ u ms. next y.system t u (move ch) ms; plainly = λ asked. absurd cc };
      keeps = k;
      leads = record { on = λ u ms. onward y (told_as y t book) u (run_state ch) ms };
    }

-- if moves of the run lead to one node and book, and from there to a second, then they lead to the second
pub then_arrives : (y : RunState) (n : ℕ) (m after : Node) (a b : List Letter) (middle book : Book) → IsReady y.system n → Arrives y n m a middle
    → ((t : SystemState) → IsReady t n → Became y.system t n m a → Arrives (told_as y t middle) n after b book) → Arrives y n after (a ++ b) book
then_arrives y n m after a b middle book ready first on =
    let second = on first.system (ready_after y.system first.system n m a ready first.became first.moves first.keeps) first.became in
    let first_leads = first.leads in
    let second_leads = second.leads in
    let first_moves = first.moves in
    let second_moves = second.moves in
    record {
      system = second.system;
      became = Became-trans y.system first.system second.system n m after a b first.became second.became;
      moves = record { on = λ u ms. first_moves.on u (second_moves.on u ms); plainly = λ asked. absurd cc };
      keeps = Keeps-trans (y.system.node n) m after first.keeps (let b = first.became in rw (b.node) at second.keeps);
      leads = record { on = λ u ms. first_leads.on u (second_leads.on u ms) };
    }

-- letters that the node may send, where it is known what it has become
pub tells_arrives : (y : RunState) (n k : ℕ) (m : Node) (sent : List Letter) → IsLive y.system n → y.system.node n ≡ m → ((l : Letter) → In l sent → IsTellable m l) → Arrives y n m (take k sent) y.book
tells_arrives y n k m sent live is fair = plain_arrives y n m (take k sent) (tells_at y.system n k m sent live is fair)

-- moves lead to each run that is as the one that was reached, with a later step
pub arrived : (y z : RunState) (n : ℕ) (after : Node) (sent : List Letter) (book : Book) → Arrives y n after sent book → Became y.system z.system n after sent → z.txs ≡ y.txs → z.book ≡ counted book → RunMoves y z
arrived y z n after sent book r b txs is =
    let l = r.leads in
    let same = Same-became y.system r.system z.system n after sent r.became b in
    l.on z (onward (told_as y r.system book) z z (stutters same txs (rw (is) refl) (rw (is) (omega arith))) (ended z))
