-- Every move keeps the texts of nodes and letters within a line.
use Rattle.std.proofs.Common.{ℕ, ◌≡◌, List, Option, Some, None, inl, inr, subst, sym}
use Rattle.std.specs.Prelude.{All, true}
use Rattle.std.proofs.lemmas.Bool.{cases_eq}
use Rattle.std.proofs.lemmas.List.Elements.{All-push, All-map}
use Rattle.zeus_packet.specs.declared.letter.Body.{Body}
use Rattle.zeus_packet.specs.declared.letter.Body.TheVariants.{RInv, OAck}
use Rattle.zeus_packet.specs.declared.letter.Letter.{Letter}
use Rattle.zeus_packet.specs.Place.{new_place}
use Rattle.zeus_packet.specs.declared.place.Proposal.{Proposal}
use Rattle.zeus_txn.specs.declared.ops.Op.{Op}
use Rattle.zeus_txn.specs.declared.tx.TxDecl.{TxDecl}
use Rattle.zeus_model.specs.In.{In}
use Rattle.zeus_model.specs.declared.state.Current.{Current}
use Rattle.zeus_model.specs.Commit.{as_kept, each_write, pass_own, pass_kept, raise, store, no_pending, no_kept}
use Rattle.zeus_model.specs.Local.{with_current, committed, run_here, new_writes, rewritten_copy}
use Rattle.zeus_model.specs.Ownership.{settle, gather_for, noted}
use Rattle.zeus_model.specs.State.{Node, copy, gather, slot, log, with_copies, value_of}
use Rattle.zeus_model.specs.Tables.{nth}
use Rattle.zeus_model.specs.World.{no_tx}
use Rattle.machine_moves.specs.SystemState.{SystemState, Changes, Same, Sends, nothing}
use Rattle.machine_moves.specs.Move.{Move, IsTellable, IsAboutProposal, own_kept, request, advice, placement, reported, own_entry, kept_entry, stored, own_passed, kept_passed, to_arbiter, to_collector, makes_view, stops, installs, tells, turns, settles, drives, accepts, redrives, gathers, decides, raises, stores, notes_own, notes_kept, passes_own, passes_kept, reports, hears, commits}
use Rattle.machine_moves.specs.Plain.{IsPlain}
use Rattle.data_safety.specs.RunState.{RunState}
use Rattle.data_safety.specs.RunMoves.{RunMove, RunMoves, plain, stutters, begins, reads, refuses, commits_tx, passes_own_tx, passes_kept_tx, ended, onward}
use Rattle.data_safety.proofs.steps.StepRuns.{move_txs}
use Rattle.printed_history.proofs.Nodes.{OneLineWrites, OneLineContent, OneLineGather, OneLineCurrent, OneLineKept, OneLinePending, OneLineNode, with_copies-one_line, with_gather-one_line, with_slot-one_line, with_log-one_line, each_write-one_line, rewritten_copy-one_line, pass_own-one_line, pass_kept-one_line, raise-one_line, store-one_line, nth-one_line, put-one_line, no_pending-one_line, no_kept-one_line, settle-one_line, bring-one_line, noted-one_line, own_content-one_line, dropped-one_line, value_of-one_line, new_writes-one_line}
use Rattle.printed_history.proofs.Values.{OneLineOp, run-one_line}

-- what a letter says has texts of one line
unfoldable pub OneLineBody : Body → Type 0
OneLineBody (RInv r) = OneLineWrites r.writes
OneLineBody (OAck x p content) = OneLineContent content
OneLineBody _ = Unit {0}

pub record OneLineSystem (s : SystemState) : Type 0 where
  pub nodes : (n : ℕ) → OneLineNode (s.node n)
  pub letters : (l : Letter) → In l s.letters → OneLineBody l.body

-- ---- what a move does

sent-one_line : (old new : SystemState) (allowed : Letter → Type 0) → Sends old new allowed → OneLineSystem old → ((l : Letter) → allowed l → OneLineBody l.body) → (l : Letter) → In l new.letters → OneLineBody l.body
sent-one_line old new allowed sends k fresh l i = elim (sends.only l i) [ inl before ↦ k.letters l before | inr now ↦ fresh l now ]

nothing-one_line : (l : Letter) → nothing l → OneLineBody l.body
nothing-one_line l h = absurd h

-- if nodes and letters stay, then their texts stay within a line
pub same-one_line : (old new : SystemState) → Same old new → OneLineSystem old → OneLineSystem new
same-one_line old new same k = record {
  nodes = λ n. subst OneLineNode (sym (same.nodes n)) (k.nodes n);
  letters = sent-one_line old new nothing same.sends k nothing-one_line;
}

-- if the texts of a changed node and of each letter that it may send stay within a line, then so do all texts
pub changed-one_line : (old new : SystemState) (n : ℕ) (after : Node) (allowed : Letter → Type 0) → Changes old new n after allowed → OneLineSystem old → OneLineNode after → ((l : Letter) → allowed l → OneLineBody l.body) → OneLineSystem new
changed-one_line old new n after allowed ch k here fresh = record {
  nodes = λ m. elim (cases_eq m n) [
    | inl same ↦ rw same (subst OneLineNode (sym ch.node) here)
    | inr other ↦ subst OneLineNode (sym (ch.others m other)) (k.nodes m)
  ];
  letters = sent-one_line old new allowed ch.sends k fresh;
}

-- ---- letters

own_kept-one_line : (n : Node) (s i : ℕ) → OneLineNode n → OneLineWrites (nth no_kept (own_kept n s) i).writes
unfolding own_kept
own_kept-one_line n s i k = nth-one_line OneLineKept no_kept (own_kept n s) i no_kept-one_line (All-map OneLineKept as_kept (slot n s).pending (k.slots s).pending)

told-one_line : (n : Node) (l : Letter) → OneLineNode n → IsTellable n l → OneLineBody l.body
unfolding OneLineBody
told-one_line n l k (request to x want) = tt
told-one_line n l k (advice to x stamp cause) = tt
told-one_line n l k (placement to x) = tt
told-one_line n l k (reported to h) = tt
told-one_line n l k (own_entry to s i a b c d) = own_kept-one_line n s i k
told-one_line n l k (kept_entry to i t a b c d e) = nth-one_line OneLineKept no_kept (log n t).kept i no_kept-one_line (k.logs t.node t.slot).kept
told-one_line n l k (stored to number t a b) = tt
told-one_line n l k (own_passed to s d a b) = tt
told-one_line n l k (kept_passed to d t a b c) = tt

said-one_line : (n : Node) (x : ℕ) (p : Proposal) (l : Letter) → OneLineNode n → IsAboutProposal n x p l → OneLineBody l.body
unfolding OneLineBody
said-one_line n x p l k (to_arbiter to a) = tt
said-one_line n x p l k (to_collector to a b) = own_content-one_line n x p.base_place k

-- what a letter that was sent says
body-one_line : (s : SystemState) (l : Letter) (b : Body) → OneLineSystem s → In l s.letters → l.body ≡ b → OneLineBody b
body-one_line s l b k i is = subst OneLineBody is (k.letters l i)

-- ---- each move of the machine that leaves current transactions alone

-- if a move brings no other texts, then the texts of nodes and letters stay within a line by it
pub move-one_line : (old new : SystemState) (move : Move old new) → IsPlain old new move → OneLineSystem old → OneLineSystem new
unfolding IsPlain OneLineBody OneLineGather OneLineContent
move-one_line old new (makes_view set v) h k = record {
  nodes = λ n. subst OneLineNode (sym (v.nodes n)) (k.nodes n);
  letters = sent-one_line old new nothing v.sends k nothing-one_line;
}
move-one_line old new (stops n ch) h k =
    let m = k.nodes n in
    changed-one_line old new n (record (old.node n) { stopped = true }) nothing ch k (record { copies = m.copies; gathers = m.gathers; slots = m.slots; logs = m.logs }) nothing-one_line
move-one_line old new (installs n e a b ch) h k =
    let m = k.nodes n in
    changed-one_line old new n _ nothing ch k (record { copies = m.copies; gathers = λ x. dropped-one_line (old.node n).gathers x; slots = m.slots; logs = m.logs }) nothing-one_line
move-one_line old new (tells n ch) h k = changed-one_line old new n (old.node n) (IsTellable (old.node n)) ch k (k.nodes n) (λ l t. told-one_line (old.node n) l (k.nodes n) t)
move-one_line old new (turns n s c ch) h k = absurd h
move-one_line old new (settles n x stamp place l a b c ch) h k =
    changed-one_line old new n (settle (old.node n) x stamp place) nothing ch k (settle-one_line (old.node n) x stamp place (k.nodes n)) nothing-one_line
move-one_line old new (drives n x requester want a ch b) h k =
    let m = k.nodes n in
    changed-one_line old new n _ _ ch k (record { copies = m.copies; gathers = m.gathers; slots = m.slots; logs = m.logs }) (λ l t. said-one_line (old.node n) x _ l (k.nodes n) t)
move-one_line old new (accepts n x p a ch b) h k =
    let m = k.nodes n in
    changed-one_line old new n _ _ ch k (record { copies = m.copies; gathers = m.gathers; slots = m.slots; logs = m.logs }) (λ l t. said-one_line (old.node n) x p l (k.nodes n) t)
move-one_line old new (redrives n x p a b c ch) h k =
    changed-one_line old new n (old.node n) _ ch k (k.nodes n) (λ l t. said-one_line (old.node n) x p l (k.nodes n) t)
move-one_line old new (gathers n x from p c l body sender received a b ch) h k =
    changed-one_line old new n _ nothing ch k
    (with_gather-one_line (old.node n) x (Some (noted (gather_for p (gather (old.node n) x)) from c))
    (noted-one_line p (gather (old.node n) x) from c ((k.nodes n).gathers x) (body-one_line old l (OAck x p c) k received.2 body)) (k.nodes n))
    nothing-one_line
move-one_line old new (decides n x g c is a has ch) h k =
    let gathered : OneLineGather (Some g) = subst OneLineGather is ((k.nodes n).gathers x) in
    let brought : OneLineContent (Some c) = subst OneLineContent has gathered in
    changed-one_line old new n _ nothing ch k
    (bring-one_line (settle (old.node n) x g.proposal.stamp (new_place g.proposal)) x g.proposal c brought (settle-one_line (old.node n) x g.proposal.stamp (new_place g.proposal) (k.nodes n)))
    nothing-one_line
move-one_line old new (raises n d t l a b c e ch) h k = changed-one_line old new n (raise (old.node n) t d) nothing ch k (raise-one_line (old.node n) t d (k.nodes n)) nothing-one_line
move-one_line old new (stores n r l a received body b c d ch) h k =
    changed-one_line old new n (store (old.node n) r) nothing ch k (store-one_line (old.node n) r (body-one_line old l (RInv r) k received.2 body) (k.nodes n)) nothing-one_line
move-one_line old new (notes_own n s i from l a b c d ch) h k =
    let at = (k.nodes n).slots s in
    let ps = (slot (old.node n) s).pending in
    changed-one_line old new n _ nothing ch k
    (with_slot-one_line (old.node n) s _
    (record { current = at.current; pending = put-one_line OneLinePending no_pending ps i _ no_pending-one_line (nth-one_line OneLinePending no_pending ps i no_pending-one_line at.pending) at.pending })
    (k.nodes n))
    nothing-one_line
move-one_line old new (notes_kept n i from t l a b c d e ch) h k =
    let at = (k.nodes n).logs t.node t.slot in
    let ks = (log (old.node n) t).kept in
    changed-one_line old new n _ nothing ch k
    (with_log-one_line (old.node n) t _
    (record { kept = put-one_line OneLineKept no_kept ks i _ no_kept-one_line (nth-one_line OneLineKept no_kept ks i no_kept-one_line at.kept) at.kept })
    (k.nodes n))
    nothing-one_line
move-one_line old new (passes_own n s a b ch) h k = absurd h
move-one_line old new (passes_kept n t a b c d ch) h k = absurd h
move-one_line old new (reports n a ch) h k =
    let m = k.nodes n in
    changed-one_line old new n _ nothing ch k (record { copies = m.copies; gathers = m.gathers; slots = m.slots; logs = m.logs }) nothing-one_line
move-one_line old new (hears n m l a b c ch) h k =
    let o = k.nodes n in
    changed-one_line old new n _ nothing ch k (record { copies = o.copies; gathers = o.gathers; slots = o.slots; logs = o.logs }) nothing-one_line
move-one_line old new (commits n s c a b d ch) h k = absurd h

-- ---- each move of a run_state

-- the operations of the transactions have values of one line
abbrev pub OneLineTxs : List TxDecl → Type 0
OneLineTxs txs = (id : ℕ) → All OneLineOp (nth no_tx txs id).tx

current-one_line : (n : Node) (s : ℕ) (c : Option Current) → OneLineCurrent c → OneLineNode n → OneLineNode (with_current n s c)
current-one_line n s c h k = with_slot-one_line n s record { current = c; done = (slot n s).done; pending = (slot n s).pending } (record { current = h; pending = (k.slots s).pending }) k

no_current-one_line : OneLineCurrent None
unfolding OneLineCurrent
no_current-one_line = tt

-- a transaction is committed
committed-one_line : (n : Node) (s : ℕ) (c : Current) (followers : List ℕ) → (slot n s).current ≡ Some c → OneLineNode n
    → OneLineNode (committed n s c (run_here n c.tx) followers (new_writes n (run_here n c.tx).writes))
unfolding OneLineCurrent
committed-one_line n s c followers is k =
    let at = k.slots s in
    let ops : OneLineCurrent (Some c) = subst OneLineCurrent is at.current in
    let ran = run-one_line (λ x. value_of (copy n x)) c.tx (λ x. value_of-one_line (copy n x) (k.copies x)) ops in
    let writes = new_writes n (run_here n c.tx).writes in
    let fresh : OneLineWrites writes = new_writes-one_line n (run_here n c.tx).writes ran.writes in
    with_slot-one_line (with_copies n (each_write rewritten_copy n.copies writes)) s _
    (record { current = tt; pending = All-push OneLinePending (slot n s).pending _ at.pending fresh })
    (with_copies-one_line n (each_write rewritten_copy n.copies writes) (each_write-one_line rewritten_copy n.copies writes rewritten_copy-one_line fresh k.copies) k)

-- if the texts of transactions, nodes and letters stay within a line, then they do after a move of a run
pub run_move-one_line : (old new : RunState) → RunMove old new → OneLineTxs old.txs → OneLineSystem old.system → OneLineSystem new.system
unfolding OneLineCurrent
run_move-one_line old new (plain move is txs book) ops k = move-one_line old.system new.system move is k
run_move-one_line old new (stutters same txs book steps) ops k = same-one_line old.system new.system same k
run_move-one_line old new (begins n s id c named tx at in_slot within fresh free ch txs book) ops k =
    changed-one_line old.system new.system n (with_current (old.system.node n) s (Some c)) nothing ch k
    (current-one_line (old.system.node n) s (Some c) (subst (λ (o : List Op). All OneLineOp o) (sym tx) (ops id)) (k.nodes n)) nothing-one_line
run_move-one_line old new (reads n s c is reader none ch txs book) ops k =
    changed-one_line old.system new.system n (with_current (old.system.node n) s None) nothing ch k (current-one_line (old.system.node n) s None no_current-one_line (k.nodes n)) nothing-one_line
run_move-one_line old new (refuses n s c is reader ch txs book) ops k =
    changed-one_line old.system new.system n (with_current (old.system.node n) s None) nothing ch k (current-one_line (old.system.node n) s None no_current-one_line (k.nodes n)) nothing-one_line
run_move-one_line old new (commits_tx n s c within is writer none ch txs book) ops k =
    changed-one_line old.system new.system n _ nothing ch k (committed-one_line (old.system.node n) s c _ is (k.nodes n)) nothing-one_line
run_move-one_line old new (passes_own_tx n s some passes ch txs book) ops k =
    changed-one_line old.system new.system n (pass_own (old.system.node n) s 1) nothing ch k (pass_own-one_line (old.system.node n) s 1 (k.nodes n)) nothing-one_line
run_move-one_line old new (passes_kept_tx n t out other some passes ch txs book) ops k =
    changed-one_line old.system new.system n (pass_kept (old.system.node n) t 1) nothing ch k (pass_kept-one_line (old.system.node n) t 1 (k.nodes n)) nothing-one_line

-- if the texts of transactions, nodes and letters stay within a line, then they do after moves of a run
pub run_moves-one_line : (old new : RunState) → RunMoves old new → OneLineTxs old.txs → OneLineSystem old.system → OneLineSystem new.system
run_moves-one_line old new (ended _) ops k = k
run_moves-one_line old new (onward _ mid _ move moves) ops k =
    run_moves-one_line mid new moves (subst OneLineTxs (sym (move_txs old mid move)) ops) (run_move-one_line old mid move ops k)
