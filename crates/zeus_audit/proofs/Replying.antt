-- What a transaction needs that has its point: its objects are of the map, and its versions can rise.
use Rattle.std.proofs.Common.{◌≡◌, ℕ, ◌-◌, ◌^◌, ◌<◌, true, List, [], ◌∷◌, ◌++◌, length, refl, sym, ap, arith}
use Rattle.std.specs.Prelude.{Some, None, Ok, slice_get, All}
use Rattle.std.specs.Str.{bytes_eq}
use Rattle.std.proofs.Math.ListN.{set}
use Rattle.std.proofs.lemmas.Bool.{cond_both}
use Rattle.std.proofs.lemmas.List.Elements.{All-nil, All-head, All-tail, All-push, All-weaker}
use Rattle.std.proofs.lemmas.Option.{slice_get_within, slice_get-get_or}
use Rattle.zeus_base.specs.TableLaws.{nth_found, put-set}
use Rattle.zeus_base.specs.Tables.{nth}
use Rattle.zeus_txn.specs.Map.{content, run_at, applied_map}
use Rattle.zeus_txn.specs.Ops.{object_of, mentions, mentioned, named_after, named}
use Rattle.zeus_txn.specs.declared.map.Versioned.{Versioned}
use Rattle.zeus_txn.specs.declared.ops.Op.{Op}
use Rattle.zeus_txn.specs.declared.tx.TxDecl.{TxDecl}
use Rattle.zeus_model.specs.Scripts.{FitsScript, FitsOp, FitsTx}
use Rattle.zeus_model.specs.World.{no_tx}
use Rattle.zeus_model.specs.declared.script.Script.{Script}
use Rattle.script_lang.specs.Cut.{cut}
use Rattle.zeus_audit.specs.Rules.{in_form, kept, if_begun, if_passed, replied, point_taken, ack_taken, if_new, begun_marks}
use Rattle.zeus_audit.specs.Shapes.{point_shape, ack_shape}
use Rattle.zeus_audit.specs.Texts.{point_text}
use Rattle.zeus_audit.specs.declared.stage.Further.TheVariants as further
use Rattle.zeus_audit.specs.declared.stage.Stage.TheVariants as stages
use Rattle.zeus_audit.specs.declared.stage.Mark.{Mark}
use Rattle.zeus_audit.specs.declared.stage.Mark.TheVariants as marks
use Rattle.zeus_audit.specs.Fitting.{Fits}
use Rattle.zeus_audit.specs.Progress.{State, mark_of, ops_of}
use Rattle.zeus_audit.proofs.Fits.{marked_within, tx_fits}
use Rattle.zeus_audit.proofs.Versions.{count_few}

All-mentioned : (P : ℕ → Type 0) (xs : List ℕ) (x : ℕ) → All P xs → P x → All P (mentioned xs x)
unfolding mentioned
All-mentioned P xs x all h = cond_both (mentions x xs) xs (xs ++ x ∷ []) (λ ys. All P ys) (λ _. all) (λ _. All-push P xs x all h)

All-named_after : (P : ℕ → Type 0) (seen : List ℕ) (ops : List Op) → All P seen → All (λ op. P (object_of op)) ops → All P (named_after seen ops)
unfolding named_after
All-named_after P seen [] all each = all
All-named_after P seen (op ∷ ops) all each =
    All-named_after P (mentioned seen (object_of op)) ops (All-mentioned P seen (object_of op) all (All-head (λ (o : Op). P (object_of o)) op ops each))
    (All-tail (λ (o : Op). P (object_of o)) op ops each)

-- what holds of the object of each operation holds of each object that they name
All-named : (P : ℕ → Type 0) (ops : List Op) → All (λ op. P (object_of op)) ops → All P (named ops)
unfolding named
All-named P ops each = All-named_after P [] ops (All-nil P) each

-- the transaction at a place of the list is that of this number
pub declared_ops : (s : Script) (k : ℕ) (t : TxDecl) → Some t ≡ slice_get s.txs k → ops_of s k ≡ t.tx
declared_ops s k t is = ap (λ (d : TxDecl). d.tx) (nth_found no_tx s.txs k t is)

-- its objects are of the map
pub declared_objects : (s : Script) (st : State) (k : ℕ) (t : TxDecl) → FitsScript s → Fits s st → Some t ≡ slice_get s.txs k → All (λ x. x < length st.map) (named t.tx)
declared_objects s st k t fits h is =
    let within = slice_get_within s.txs k t (sym is) in
    let tx : FitsTx s.config k t = rw (nth_found no_tx s.txs k t is) at (tx_fits s k fits within) in
    let size = h.objects in
    All-named (λ x. x < length st.map) t.tx (All-weaker (FitsOp s.config) (λ op. object_of op < length st.map) (λ op o. let low = o.object in omega arith) t.tx tx.ops)

-- no version of the map is at its end
pub few_versions : (s : Script) (st : State) (x : ℕ) → FitsScript s → Fits s st → (content st.map x).ver < 2 ^ 64 - 1
few_versions s st x fits h =
    let here = h.versions x in
    let points = count_few st.marks in
    let size = h.marks in
    let txs = fits.txs.few in
    omega arith

-- ---- what is taken, of what was read

-- if a line acknowledges a transaction that has its point, then it is taken and the transaction is acknowledged
pub ack_from : (st : State) (n k : ℕ) (line : List ℕ) → ack_shape (cut 32 line) ≡ Ok k → mark_of st k ≡ marks.Passed → ack_taken st n line ≡ Ok record st { stage = stages.Steps n further.Acks; marks = set st.marks k marks.Acked }
unfolding ack_taken in_form if_passed
ack_from st n k line shape passed =
    let within : k < length st.marks = marked_within st.marks k (λ e. cc) in
    rw (shape, passed, put-set marks.New st.marks k marks.Acked within) refl

-- if a transaction was not begun, then to mark it as begun is what a begin does to the marks
pub begun_new : (ms : List Mark) (k : ℕ) → k < length ms → nth marks.New ms k ≡ marks.New → set ms k marks.Begun ≡ begun_marks ms k
unfolding begun_marks if_new
begun_new ms k within new = rw (new, put-set marks.New ms k marks.Begun within) refl

-- if a transaction was begun already, then a begin leaves the marks
pub begun_old : (ms : List Mark) (k : ℕ) (m : Mark) → nth marks.New ms k ≡ m → (m ≡ marks.New → ⊥) → ms ≡ begun_marks ms k
unfolding begun_marks if_new
begun_old ms k marks.New is old = absurd (old refl)
begun_old ms k marks.Begun is old = rw is refl
begun_old ms k marks.Passed is old = rw is refl
begun_old ms k marks.Acked is old = rw is refl

-- if a line tells the reply of the operations, then it is taken, and the transaction has its point behind those so far
pub reply_from : (st : State) (k : ℕ) (ops : List Op) (line : List ℕ) (map : List Versioned) (points : List ℕ) → k < length st.marks → bytes_eq line (point_text k (run_at st.map ops).reply) ≡ true → points ≡ st.points ++ k ∷ [] → map ≡ applied_map st.map ops
    → replied st k ops line ≡ Ok record { stage = st.stage; marks = set st.marks k marks.Passed; points = points; map = map }
unfolding replied kept
reply_from st k ops line map points within same added left = rw (same, added, left, put-set marks.New st.marks k marks.Passed within) refl

-- if a line tells the point of a begun transaction, then what counts is whether its reply is right
pub point_from : (s : Script) (st : State) (k : ℕ) (ops : List Op) (line : List ℕ) → point_shape s.config.version (cut 32 line) ≡ Ok k → mark_of st k ≡ marks.Begun → ops_of s k ≡ ops → point_taken s st line ≡ replied st k ops line
unfolding point_taken in_form if_begun
point_from s st k ops line shape begun same = rw (shape, begun, same) refl

-- a transaction that was begun is of the script
pub never_unknown : (s : Script) (st : State) (k : ℕ) → Fits s st → mark_of st k ≡ marks.Begun → None ≡ slice_get s.txs k → ⊥
never_unknown s st k h begun none =
    let within : k < length st.marks = marked_within st.marks k (λ e. cc) in
    let size = h.marks in
    let there = slice_get-get_or s.txs k no_tx (omega arith) in
    cc
