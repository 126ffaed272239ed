-- The rules: what each line of a report has to keep, and what it then tells. At a line the first rule that fails counts.
use Rattle.std.specs.Prelude.{ℕ, suc, Bool, true, false, ◌&&◌, ◌||◌, ◌==◌, nat_lt, nat_le, List, [], ◌∷◌, ◌++◌, length, take, Option, Some, None, slice_get, Result, Ok, Err, codes, if◌then◌else◌}
use Rattle.std.specs.Str.{bytes_eq}
use Rattle.zeus_base.specs.Nodes.{has}
use Rattle.zeus_base.specs.Tables.{nth, put}
use Rattle.zeus_base.specs.Values.{same_value}
use Rattle.zeus_base.specs.declared.step.Step.{Step}
use Rattle.zeus_base.specs.declared.step.Step.TheVariants as steps
use Rattle.zeus_packet.specs.declared.letter.State.{State as CopyState}
use Rattle.zeus_packet.specs.declared.letter.State.TheVariants as copy_states
use Rattle.zeus_txn.specs.Map.{content, run_at, applied_map}
use Rattle.zeus_txn.specs.declared.map.Versioned.{Versioned}
use Rattle.zeus_txn.specs.declared.ops.Op.{Op}
use Rattle.zeus_model.specs.declared.answer.TxState.{TxState}
use Rattle.zeus_model.specs.declared.answer.TxState.TheVariants as tx_states
use Rattle.zeus_model.specs.declared.fault.Kind.{Kind}
use Rattle.zeus_model.specs.declared.script.Script.{Script}
use Rattle.zeus_model.specs.declared.state.Copy.{Copy}
use Rattle.script_lang.specs.Cut.{cut}
use Rattle.zeus_audit.specs.declared.stage.Further.TheVariants as further
use Rattle.zeus_audit.specs.declared.stage.Mark.{Mark}
use Rattle.zeus_audit.specs.declared.stage.Mark.TheVariants as marks
use Rattle.zeus_audit.specs.declared.stage.Stage.{Stage}
use Rattle.zeus_audit.specs.declared.stage.Stage.TheVariants as stages
use Rattle.zeus_audit.specs.declared.verdict.Rule.{Rule}
use Rattle.zeus_audit.specs.declared.verdict.Rule.TheVariants as rules
use Rattle.zeus_audit.specs.Progress.{State, mark_of, ops_of, next}
use Rattle.zeus_audit.specs.Shapes.{point_shape, ack_shape, history_shape, state_shape, object_shape, lost_shape, copy_shape}
use Rattle.zeus_audit.specs.Texts.{head_text, step_head, point_text, history_text, behind}

-- a line whose words do not fit breaks the form
unfoldable pub in_form : {A : Type 0} → Result A Kind → (A → Result State Rule) → Result State Rule
in_form (Ok x) go_on = go_on x
in_form (Err k) go_on = Err rules.Form

-- what a line tells that keeps this rule
unfoldable pub kept : Bool → Rule → State → Result State Rule
kept true rule st = Ok st
kept false rule st = Err rule

-- ---- points, acknowledgements and packets

-- the transaction has its point: it runs behind those before it
abbrev pub pointed : State → ℕ → List Op → State
pointed st k ops =
    record st { marks = put marks.New st.marks k marks.Passed; points = st.points ++ k ∷ []; map = applied_map st.map ops }

-- the reply is what these operations give behind the points so far
unfoldable pub replied : State → ℕ → List Op → List ℕ → Result State Rule
replied st k ops line = kept (bytes_eq line (point_text k (run_at st.map ops).reply)) rules.Reply (pointed st k ops)

-- the transaction was begun, and has no point
unfoldable pub if_begun : Mark → Result State Rule → Result State Rule
if_begun marks.Begun then_ = then_
if_begun _ then_ = Err rules.Point

-- `* K REPLY`
unfoldable pub point_taken : Script → State → List ℕ → Result State Rule
point_taken s st line =
    in_form (point_shape s.config.version (cut 32 line)) (λ k. if_begun (mark_of st k) (replied st k (ops_of s k) line))

-- points come right behind the line of a step
unfoldable pub point_line : Script → State → Stage → List ℕ → Result State Rule
point_line s st (stages.Steps n further.Points) line = point_taken s st line
point_line s st _ line = Err rules.Form

-- the transaction has its point, and is not acknowledged
unfoldable pub if_passed : Mark → Result State Rule → Result State Rule
if_passed marks.Passed then_ = then_
if_passed _ then_ = Err rules.Ack

-- `! K`
unfoldable pub ack_taken : State → ℕ → List ℕ → Result State Rule
ack_taken st n line =
    in_form (ack_shape (cut 32 line)) (λ k.
    if_passed (mark_of st k) (Ok (record st { stage = stages.Steps n further.Acks; marks = put marks.New st.marks k marks.Acked })))

-- acknowledgements come behind the points
unfoldable pub ack_line : State → Stage → List ℕ → Result State Rule
ack_line st (stages.Steps n further.Points) line = ack_taken st n line
ack_line st (stages.Steps n further.Acks) line = ack_taken st n line
ack_line st _ line = Err rules.Form

-- packets come behind the acknowledgements; what they say is not looked at
unfoldable pub packet_line : State → Stage → Result State Rule
packet_line st (stages.Steps n further.Points) = Ok (next st (stages.Steps n further.Packets))
packet_line st (stages.Steps n further.Acks) = Ok (next st (stages.Steps n further.Packets))
packet_line st (stages.Steps n further.Packets) = Ok (next st (stages.Steps n further.Packets))
packet_line st _ = Err rules.Form

-- ---- the first line, and the lines of the steps

-- the head line names the script's version; then the lines of steps come
unfoldable pub head_taken : Script → State → List ℕ → Result State Rule
head_taken s st line = kept (bytes_eq line (head_text s.config.version)) rules.Form (next st (stages.Steps 0 further.Nothing))

-- the first of these for a transaction that was not begun
unfoldable pub if_new : Mark → List Mark → List Mark → List Mark
if_new marks.New new old = new
if_new _ new old = old

-- a transaction that was not begun is begun
unfoldable pub begun_marks : List Mark → ℕ → List Mark
begun_marks ms k = if_new (nth marks.New ms k) (put marks.New ms k marks.Begun) ms

-- the answer `begun` begins the transaction; other answers are not looked at
unfoldable pub answered_marks : List Mark → Step → List ℕ → List Mark
answered_marks ms (steps.Begin k) answer = if bytes_eq answer (codes "begun") then begun_marks ms k else ms
answered_marks ms _ answer = ms

-- behind `I STEP = ` there is an answer
unfoldable pub answered : State → ℕ → Step → Option (List ℕ) → Result State Rule
answered st n step (Some (b ∷ answer)) =
    Ok (record st { stage = stages.Steps (suc n) further.Points; marks = answered_marks st.marks step (b ∷ answer) })
answered st n step _ = Err rules.Form

-- `history` and the points
unfoldable pub history_taken : State → List ℕ → Result State Rule
history_taken st line =
    in_form (history_shape (cut 32 line)) (λ _. kept (bytes_eq line (history_text st.points)) rules.History (next st (stages.States 0)))

-- the line of the next step, or behind the last one the history
unfoldable pub step_line : State → ℕ → Option Step → List ℕ → Result State Rule
step_line st n (Some step) line = answered st n step (behind (step_head n step) line)
step_line st n None line = history_taken st line

-- ---- the states of the transactions

-- `acked` stands exactly if there is an acknowledgement, `passed` exactly if there is a point without one, and
-- `new` exactly if there is no begin
unfoldable pub fits_mark : Mark → TxState → Bool
fits_mark marks.New tx_states.New = true
fits_mark marks.Begun tx_states.Current = true
fits_mark marks.Begun tx_states.Pending = true
fits_mark marks.Begun tx_states.Refused = true
fits_mark marks.Passed tx_states.Passed = true
fits_mark marks.Acked tx_states.Acked = true
fits_mark _ _ = false

-- `tx K STATE` of transaction k
unfoldable pub state_taken : State → ℕ → List ℕ → Result State Rule
state_taken st k line =
    in_form (state_shape k (cut 32 line)) (λ state. kept (fits_mark (mark_of st k) state) rules.State (next st (stages.States (suc k))))

-- ---- the objects and their copies

-- there is no owner, or it is one of the replicas
unfoldable pub is_among : Option ℕ → List ℕ → Bool
is_among None replicas = true
is_among (Some owner) replicas = has owner replicas

-- `object NAME OWNER REPLICAS` of object x, with nodes below that number
unfoldable pub object_taken : ℕ → State → ℕ → List ℕ → List ℕ → Result State Rule
object_taken nodes st x name line =
    in_form (object_shape nodes name (cut 32 line)) (λ place.
    kept (is_among place.0 place.1) rules.Owner (next st (stages.Holders x place.1)))

-- the line of object x, or behind the last one `end`
unfoldable pub object_line : Script → State → ℕ → Option (List ℕ) → List ℕ → Result State Rule
object_line s st x (Some name) line = object_taken s.config.nodes st x name line
object_line s st x None line = kept (bytes_eq line (codes "end")) rules.Form (next st stages.Ended)

-- `lost NAME` of object x
unfoldable pub lost_line : State → ℕ → Option (List ℕ) → List ℕ → Result State Rule
lost_line st x (Some name) line = in_form (lost_shape name (cut 32 line)) (λ _. Ok (next st (stages.Objects (suc x))))
lost_line st x None line = Err rules.Form

-- the nodes of copies rise
unfoldable pub is_above : Option ℕ → ℕ → Bool
is_above None node = true
is_above (Some last) node = nat_lt last node

-- a copy's state is Valid
unfoldable pub is_valid : CopyState → Bool
is_valid copy_states.Valid = true
is_valid _ = false

-- a copy that is valid, or of the version that the points leave, is what they leave; another one is not older
unfoldable pub is_current : Copy → Versioned → Bool
is_current c left =
    if is_valid c.state || (c.ver == left.ver) then (c.ver == left.ver) && same_value c.value left.value else nat_le left.ver c.ver

-- a copy of object x at a node
unfoldable pub copied : State → ℕ → List ℕ → Option ℕ → ℕ → Copy → Result State Rule
copied st x replicas last node c =
    if is_above last node
    then kept (has node replicas && is_current c (content st.map x)) rules.Copy (next st (stages.Copies x replicas node))
    else Err rules.Form

-- `copy NAME NODE STATE VERSION VALUE` of object x, behind the copy at the last node
unfoldable pub copy_taken : Script → State → ℕ → List ℕ → Option ℕ → Option (List ℕ) → List ℕ → Result State Rule
copy_taken s st x replicas last (Some name) line =
    in_form (copy_shape s.config.nodes s.config.version name (cut 32 line)) (λ c.
    copied st x replicas last c.node record { value = c.value; ver = c.ver; state = c.state })
copy_taken s st x replicas last None line = Err rules.Form

-- copies come behind their object
unfoldable pub copy_line : Script → State → Stage → List ℕ → Result State Rule
copy_line s st (stages.Holders x replicas) line = copy_taken s st x replicas None (slice_get s.names x) line
copy_line s st (stages.Copies x replicas last) line = copy_taken s st x replicas (Some last) (slice_get s.names x) line
copy_line s st _ line = Err rules.Form

-- ---- all lines

-- behind the states of k transactions: that of the next one, or behind the last one the first object
unfoldable pub state_line : Script → State → ℕ → List ℕ → Result State Rule
state_line s st k line =
    if nat_lt k (length s.txs) then state_taken st k line else object_line s st 0 (slice_get s.names 0) line

-- a line that tells neither a point nor an acknowledgement nor a packet nor a copy
unfoldable pub other_line : Script → State → Stage → List ℕ → Result State Rule
other_line s st stages.Head line = head_taken s st line
other_line s st (stages.Steps n _) line = step_line st n (slice_get s.steps n) line
other_line s st (stages.States k) line = state_line s st k line
other_line s st (stages.Objects x) line = object_line s st x (slice_get s.names x) line
other_line s st (stages.Holders x replicas) line = lost_line st x (slice_get s.names x) line
other_line s st (stages.Copies x replicas last) line = object_line s st (suc x) (slice_get s.names (suc x)) line
other_line s st stages.Ended line = Err rules.Form

-- the line begins so
abbrev pub begins : List ℕ → List ℕ → Bool
begins prefix line = bytes_eq prefix (take (length prefix) line)

-- the next line: what the lines then tell, or the first rule that it breaks
unfoldable pub line_taken : Script → State → List ℕ → Result State Rule
line_taken s st line =
    if begins (codes "* ") line then point_line s st st.stage line else
    (if begins (codes "! ") line then ack_line st st.stage line else
    (if begins (codes "copy ") line then copy_line s st st.stage line else
    (if begins (codes "> ") line then packet_line st st.stage else other_line s st st.stage line)))
