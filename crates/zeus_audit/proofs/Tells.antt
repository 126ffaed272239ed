-- What a line that is taken says, and how it changes what the lines tell.
use Rattle.std.proofs.Common.{◌≡◌, ℕ, suc, ◌<◌, Bool, true, false, cond, List, [], ◌∷◌, ◌++◌, length, get_or, take, drop, refl, sym, ap, ◌∙◌}
use Rattle.std.specs.Prelude.{nat_lt, codes, Option, Some, None, Ok, slice_get}
use Rattle.std.specs.Str.{bytes_eq}
use Rattle.std.proofs.lemmas.List.{take-append-drop}
use Rattle.std.proofs.lemmas.Bool.{and_parts}
use Rattle.std.proofs.lemmas.Option.{slice_get_within}
use Rattle.zeus_base.specs.Nodes.{has}
use Rattle.zeus_base.specs.declared.config.Config.{Config}
use Rattle.zeus_base.specs.Tables.{put}
use Rattle.zeus_base.specs.TableLaws.{nth_found, nth-get_or}
use Rattle.zeus_base.specs.declared.step.Step.{Step}
use Rattle.zeus_base.specs.declared.step.Step.TheVariants as steps
use Rattle.zeus_txn.specs.Map.{content, run_at, applied_map}
use Rattle.zeus_txn.specs.declared.map.Versioned.{Versioned}
use Rattle.zeus_model.specs.Scripts.{FitsScript, FitsStep}
use Rattle.zeus_model.specs.declared.script.Script.{Script}
use Rattle.zeus_model.specs.declared.state.Copy.{Copy}
use Rattle.script_lang.specs.Cut.{cut}
use Rattle.script_lang.proofs.laws.FindLaws.{bytes_eq-true}
use Rattle.zeus_audit.specs.declared.stage.Further.TheVariants as further
use Rattle.zeus_audit.specs.declared.stage.Mark.{Mark}
use Rattle.zeus_audit.specs.declared.stage.Mark.TheVariants as marks
use Rattle.zeus_audit.specs.declared.stage.Stage.{Stage}
use Rattle.zeus_audit.specs.declared.stage.Stage.TheVariants as stages
use Rattle.zeus_audit.specs.declared.verdict.Rule.TheVariants as rules
use Rattle.zeus_audit.specs.Events.{Event, Quiet, Begun, Point, Acked, History, Stands, Copied, Says}
use Rattle.zeus_audit.specs.Fitting.{BeginsBelow}
use Rattle.zeus_audit.specs.Progress.{State, mark_of, ops_of, next}
use Rattle.zeus_audit.specs.Rules.{begins, pointed, replied, point_taken, point_line, ack_taken, ack_line, packet_line, head_taken, begun_marks, answered_marks, answered, history_taken, step_line, fits_mark, state_taken, object_taken, object_line, lost_line, is_above, is_current, copied, copy_taken, copy_line, state_line, other_line, line_taken}
use Rattle.zeus_audit.specs.Shapes.{point_shape, ack_shape, history_shape, state_shape, object_shape, lost_shape, copy_shape}
use Rattle.zeus_audit.specs.Texts.{step_head, behind}
use Rattle.zeus_audit.proofs.ShapeLaws.{ack_shape-sound, state_shape-sound, copy_shape-sound}
use Rattle.zeus_audit.proofs.Taken.{IfTaken, taken_ok, taken_err, taken_cond, taken_form, taken_any, taken_kept, taken_begun, taken_passed, taken_is}

-- ---- what an event changes, and when it may come

-- the marks after an event: of a begin, a point or an acknowledgement that of its transaction changes
unfoldable pub marks_after : List Mark → Event → List Mark
marks_after ms (Begun k) = begun_marks ms k
marks_after ms (Point k reply) = put marks.New ms k marks.Passed
marks_after ms (Acked k) = put marks.New ms k marks.Acked
marks_after ms _ = ms

-- the points after an event: that of a point is added
unfoldable pub points_after : List ℕ → Event → List ℕ
points_after ks (Point k reply) = ks ++ k ∷ []
points_after ks _ = ks

-- the map after an event: that of a point is applied
unfoldable pub map_after : Script → List Versioned → Event → List Versioned
map_after s m (Point k reply) = applied_map m (ops_of s k)
map_after s m _ = m

-- the history was told
unfoldable pub is_closed : Stage → Bool
is_closed stages.Head = false
is_closed (stages.Steps n f) = false
is_closed _ = true

-- what the lines so far tell allows the event
unfoldable pub Allows : Script → State → Event → Type 0
Allows s st Quiet = Unit {0}
Allows s st (Begun k) = k < length s.txs
Allows s st (Point k reply) = (mark_of st k ≡ marks.Begun) × (reply ≡ (run_at st.map (ops_of s k)).reply)
Allows s st (Acked k) = mark_of st k ≡ marks.Passed
Allows s st (History ks) = ks ≡ st.points
Allows s st (Stands k state) = fits_mark (mark_of st k) state ≡ true
Allows s st (Copied x n c) = is_current c (content st.map x) ≡ true

-- the event comes before the history, with it, or behind it
unfoldable pub Comes : Bool → Bool → Event → Type 0
Comes before after (Begun k) = (before ≡ false) × (after ≡ false)
Comes before after (Point k reply) = (before ≡ false) × (after ≡ false)
Comes before after (Acked k) = (before ≡ false) × (after ≡ false)
Comes before after (History ks) = (before ≡ false) × (after ≡ true)
Comes before after (Stands k state) = (before ≡ true) × (after ≡ true)
Comes before after (Copied x n c) = (before ≡ true) × (after ≡ true)
Comes before after Quiet = before ≡ after

-- a line says an event that is allowed where it stands, and the state after it is changed by that event
pub record Tells (s : Script) (st : State) (line : List ℕ) (after : State) : Type 0 where
  pub event : Event
  pub says : Says s line event
  pub allowed : Allows s st event
  pub comes : Comes (is_closed st.stage) (is_closed after.stage) event
  pub marks : after.marks ≡ marks_after st.marks event
  pub points : after.points ≡ points_after st.points event
  pub map : after.map ≡ map_after s st.map event

-- a line with no point, no acknowledgement and no copy
pub record IsPlain (line : List ℕ) : Type 0 where
  pub point : begins (codes "* ") line ≡ false
  pub ack : begins (codes "! ") line ≡ false
  pub copy : begins (codes "copy ") line ≡ false

-- a quiet line changes the stage alone
quiet : (s : Script) (st : State) (line : List ℕ) (stage : Stage) → IsPlain line → is_closed st.stage ≡ is_closed stage → Tells s st line (next st stage)
unfolding Says Allows Comes marks_after points_after map_after
quiet s st line stage plain same =
    record { event = Quiet; says = (plain.point, plain.ack, plain.copy); allowed = tt; comes = same; marks = refl; points = refl; map = refl }

-- ---- points

point_told : (s : Script) (st : State) (line : List ℕ) → is_closed st.stage ≡ false → IfTaken (point_taken s st line) (Tells s st line)
unfolding point_taken replied Says Allows Comes marks_after points_after map_after
point_told s st line open_ =
    taken_any (point_shape s.config.version (cut 32 line)) _ _ (λ k.
    taken_begun (mark_of st k) _ _ (λ m.
    taken_kept _ rules.Reply (pointed st k (ops_of s k)) _ (λ t.
    record { event = Point k (run_at st.map (ops_of s k)).reply; says = bytes_eq-true line _ t; allowed = (m, refl); comes = (open_, open_); marks = refl; points = refl; map = refl })))

point_line_told : (s : Script) (st : State) (stage : Stage) (line : List ℕ) → st.stage ≡ stage → IfTaken (point_line s st stage line) (Tells s st line)
unfolding point_line is_closed
point_line_told s st (stages.Steps n further.Points) line is = point_told s st line (rw is refl)
point_line_told s st (stages.Steps n further.Nothing) line is = taken_err _ _
point_line_told s st (stages.Steps n further.Acks) line is = taken_err _ _
point_line_told s st (stages.Steps n further.Packets) line is = taken_err _ _
point_line_told s st stages.Head line is = taken_err _ _
point_line_told s st (stages.States k) line is = taken_err _ _
point_line_told s st (stages.Objects x) line is = taken_err _ _
point_line_told s st (stages.Holders x r) line is = taken_err _ _
point_line_told s st (stages.Copies x r n) line is = taken_err _ _
point_line_told s st stages.Ended line is = taken_err _ _

-- ---- acknowledgements

ack_told : (s : Script) (st : State) (n : ℕ) (line : List ℕ) → is_closed st.stage ≡ false → IfTaken (ack_taken st n line) (Tells s st line)
unfolding ack_taken Says Allows Comes marks_after points_after map_after is_closed
ack_told s st n line open_ =
    taken_form (ack_shape (cut 32 line)) _ _ (ack_shape-sound line) (λ k _ said.
    taken_passed (mark_of st k) _ _ (λ m.
    taken_ok _ _ record { event = Acked k; says = said; allowed = m; comes = (open_, refl); marks = refl; points = refl; map = refl }))

ack_line_told : (s : Script) (st : State) (stage : Stage) (line : List ℕ) → st.stage ≡ stage → IfTaken (ack_line st stage line) (Tells s st line)
unfolding ack_line is_closed
ack_line_told s st (stages.Steps n further.Points) line is = ack_told s st n line (rw is refl)
ack_line_told s st (stages.Steps n further.Acks) line is = ack_told s st n line (rw is refl)
ack_line_told s st (stages.Steps n further.Nothing) line is = taken_err _ _
ack_line_told s st (stages.Steps n further.Packets) line is = taken_err _ _
ack_line_told s st stages.Head line is = taken_err _ _
ack_line_told s st (stages.States k) line is = taken_err _ _
ack_line_told s st (stages.Objects x) line is = taken_err _ _
ack_line_told s st (stages.Holders x r) line is = taken_err _ _
ack_line_told s st (stages.Copies x r n) line is = taken_err _ _
ack_line_told s st stages.Ended line is = taken_err _ _

-- ---- packets

packet_line_told : (s : Script) (st : State) (stage : Stage) (line : List ℕ) → IsPlain line → st.stage ≡ stage → IfTaken (packet_line st stage) (Tells s st line)
unfolding packet_line is_closed
packet_line_told s st (stages.Steps n further.Points) line plain is = taken_ok _ _ (quiet s st line _ plain (rw is refl))
packet_line_told s st (stages.Steps n further.Acks) line plain is = taken_ok _ _ (quiet s st line _ plain (rw is refl))
packet_line_told s st (stages.Steps n further.Packets) line plain is = taken_ok _ _ (quiet s st line _ plain (rw is refl))
packet_line_told s st (stages.Steps n further.Nothing) line plain is = taken_err _ _
packet_line_told s st stages.Head line plain is = taken_err _ _
packet_line_told s st (stages.States k) line plain is = taken_err _ _
packet_line_told s st (stages.Objects x) line plain is = taken_err _ _
packet_line_told s st (stages.Holders x r) line plain is = taken_err _ _
packet_line_told s st (stages.Copies x r n) line plain is = taken_err _ _
packet_line_told s st stages.Ended line plain is = taken_err _ _

-- ---- the first line, and the lines of the steps

head_told : (s : Script) (st : State) (line : List ℕ) → IsPlain line → is_closed st.stage ≡ false → IfTaken (head_taken s st line) (Tells s st line)
unfolding head_taken is_closed
head_told s st line plain open_ = taken_kept _ rules.Form _ _ (λ _. quiet s st line _ plain open_)

-- a line that begins with a prefix is the prefix and what is behind it
pub behind-is : (prefix line rest : List ℕ) → behind prefix line ≡ Some rest → line ≡ prefix ++ rest
unfolding behind
behind-is prefix line rest is = go (bytes_eq (take (length prefix) line) prefix) refl is
  where
    go : (b : Bool) → bytes_eq (take (length prefix) line) prefix ≡ b → cond b (Some (drop (length prefix) line)) None ≡ Some rest → line ≡ prefix ++ rest
    go true t e =
        let front = bytes_eq-true (take (length prefix) line) prefix t in
        let back : drop (length prefix) line ≡ rest = cc in
        sym (take-append-drop (length prefix) line) ∙ (ap (λ l. l ++ drop (length prefix) line) front ∙ ap (λ l. prefix ++ l) back)
    go false t e = absurd cc

answer_told : (s : Script) (st : State) (n : ℕ) (line : List ℕ) (step : Step) (answer : List ℕ) → IsPlain line → is_closed st.stage ≡ false → BeginsBelow (length s.txs) step → line ≡ step_head n step ++ answer
    → Tells s st line record st { stage = stages.Steps (suc n) further.Points; marks = answered_marks st.marks step answer }
unfolding answered_marks BeginsBelow Says Allows Comes marks_after points_after map_after is_closed
answer_told s st n line (steps.Begin k) answer plain open_ below is = go (bytes_eq answer (codes "begun")) refl
  where
    go : (b : Bool) → bytes_eq answer (codes "begun") ≡ b → Tells s st line record st { stage = stages.Steps (suc n) further.Points; marks = cond b (begun_marks st.marks k) st.marks }
    go true t =
        let said : line ≡ step_head n (steps.Begin k) ++ codes "begun" = is ∙ ap (λ a. step_head n (steps.Begin k) ++ a) (bytes_eq-true answer (codes "begun") t) in
        record { event = Begun k; says = (n, said); allowed = below; comes = (open_, refl); marks = refl; points = refl; map = refl }
    go false t = quiet s st line (stages.Steps (suc n) further.Points) plain open_
answer_told s st n line (steps.Try a b) answer plain open_ below is = quiet s st line (stages.Steps (suc n) further.Points) plain open_
answer_told s st n line (steps.Deliver a b c) answer plain open_ below is = quiet s st line (stages.Steps (suc n) further.Points) plain open_
answer_told s st n line (steps.Tick a) answer plain open_ below is = quiet s st line (stages.Steps (suc n) further.Points) plain open_
answer_told s st n line (steps.Stop a) answer plain open_ below is = quiet s st line (stages.Steps (suc n) further.Points) plain open_
answer_told s st n line (steps.View a) answer plain open_ below is = quiet s st line (stages.Steps (suc n) further.Points) plain open_
answer_told s st n line (steps.Install a b) answer plain open_ below is = quiet s st line (stages.Steps (suc n) further.Points) plain open_

answered_told : (s : Script) (st : State) (n : ℕ) (line : List ℕ) (step : Step) (o : Option (List ℕ)) → IsPlain line → is_closed st.stage ≡ false → BeginsBelow (length s.txs) step → behind (step_head n step) line ≡ o
    → IfTaken (answered st n step o) (Tells s st line)
unfolding answered
answered_told s st n line step None plain open_ below is = taken_err _ _
answered_told s st n line step (Some []) plain open_ below is = taken_err _ _
answered_told s st n line step (Some (b ∷ bs)) plain open_ below is = taken_ok _ _ (answer_told s st n line step (b ∷ bs) plain open_ below (behind-is (step_head n step) line (b ∷ bs) is))

history_told : (s : Script) (st : State) (line : List ℕ) → is_closed st.stage ≡ false → IfTaken (history_taken st line) (Tells s st line)
unfolding history_taken Says Allows Comes marks_after points_after map_after is_closed
history_told s st line open_ =
    taken_any (history_shape (cut 32 line)) _ _ (λ h.
    taken_kept _ rules.History _ _ (λ t.
    record { event = History st.points; says = bytes_eq-true line _ t; allowed = refl; comes = (open_, refl); marks = refl; points = refl; map = refl }))

fit_below : (c : Config) (txs : ℕ) (step : Step) → FitsStep c txs step → BeginsBelow txs step
unfolding FitsStep BeginsBelow
fit_below c txs (steps.Begin k) h = h
fit_below c txs (steps.Try a b) h = tt
fit_below c txs (steps.Deliver a b d) h = tt
fit_below c txs (steps.Tick a) h = tt
fit_below c txs (steps.Stop a) h = tt
fit_below c txs (steps.View a) h = tt
fit_below c txs (steps.Install a b) h = tt

-- each step of a script that begins a transaction begins one of it
pub step_below : (s : Script) → FitsScript s → (n : ℕ) (step : Step) → slice_get s.steps n ≡ Some step → BeginsBelow (length s.txs) step
step_below s fits n step is =
    let here : get_or s.steps n step ≡ step = sym (nth-get_or step s.steps n) ∙ nth_found step s.steps n step (sym is) in
    fit_below s.config (length s.txs) step (rw here at (fits.steps n step (slice_get_within s.steps n step is)))

step_line_told : (s : Script) (st : State) (n : ℕ) (line : List ℕ) (o : Option Step) → FitsScript s → IsPlain line → is_closed st.stage ≡ false → slice_get s.steps n ≡ o → IfTaken (step_line st n o line) (Tells s st line)
unfolding step_line
step_line_told s st n line (Some step) fits plain open_ is = answered_told s st n line step (behind (step_head n step) line) plain open_ (step_below s fits n step is) refl
step_line_told s st n line None fits plain open_ is = history_told s st line open_

-- ---- the states of the transactions

state_told : (s : Script) (st : State) (k : ℕ) (line : List ℕ) → is_closed st.stage ≡ true → IfTaken (state_taken st k line) (Tells s st line)
unfolding state_taken Says Allows Comes marks_after points_after map_after is_closed
state_told s st k line closed =
    taken_form (state_shape k (cut 32 line)) _ _ (state_shape-sound k line) (λ state _ said.
    taken_kept _ rules.State _ _ (λ t.
    record { event = Stands k state; says = said; allowed = t; comes = (closed, refl); marks = refl; points = refl; map = refl }))

-- ---- the objects and their copies

object_told : (s : Script) (nodes : ℕ) (st : State) (x : ℕ) (name line : List ℕ) → IsPlain line → is_closed st.stage ≡ true → IfTaken (object_taken nodes st x name line) (Tells s st line)
unfolding object_taken is_closed
object_told s nodes st x name line plain closed =
    taken_any (object_shape nodes name (cut 32 line)) _ _ (λ place.
    taken_kept _ rules.Owner _ _ (λ _. quiet s st line (stages.Holders x place.1) plain closed))

object_line_told : (s : Script) (st : State) (x : ℕ) (line : List ℕ) (o : Option (List ℕ)) → IsPlain line → is_closed st.stage ≡ true → IfTaken (object_line s st x o line) (Tells s st line)
unfolding object_line is_closed
object_line_told s st x line (Some name) plain closed = object_told s s.config.nodes st x name line plain closed
object_line_told s st x line None plain closed = taken_kept _ rules.Form _ _ (λ _. quiet s st line stages.Ended plain closed)

lost_line_told : (s : Script) (st : State) (x : ℕ) (line : List ℕ) (o : Option (List ℕ)) → IsPlain line → is_closed st.stage ≡ true → IfTaken (lost_line st x o line) (Tells s st line)
unfolding lost_line is_closed
lost_line_told s st x line (Some name) plain closed = taken_any (lost_shape name (cut 32 line)) _ _ (λ _. taken_ok _ _ (quiet s st line (stages.Objects (suc x)) plain closed))
lost_line_told s st x line None plain closed = taken_err _ _

copied_told : (s : Script) (st : State) (x : ℕ) (replicas : List ℕ) (last : Option ℕ) (line name : List ℕ) (n : ℕ) (c : Copy) → is_closed st.stage ≡ true → slice_get s.names x ≡ Some name → Says s line (Copied x n c)
    → IfTaken (copied st x replicas last n c) (Tells s st line)
unfolding copied Allows Comes marks_after points_after map_after is_closed
copied_told s st x replicas last line name n c closed is said =
    taken_cond (is_above last n) _ _ _
    (λ _. taken_kept _ rules.Copy _ _ (λ t.
    record { event = Copied x n c; says = said; allowed = (and_parts (has n replicas) (is_current c (content st.map x)) t).1; comes = (closed, refl); marks = refl; points = refl; map = refl }))
    (λ _. taken_err _ _)

copy_told : (s : Script) (st : State) (x : ℕ) (replicas : List ℕ) (last : Option ℕ) (line : List ℕ) (o : Option (List ℕ)) → is_closed st.stage ≡ true → slice_get s.names x ≡ o
    → IfTaken (copy_taken s st x replicas last o line) (Tells s st line)
unfolding copy_taken Says
copy_told s st x replicas last line (Some name) closed is =
    taken_form (copy_shape s.config.nodes s.config.version name (cut 32 line)) _ _ (copy_shape-sound s.config.nodes s.config.version name line) (λ c _ said.
    copied_told s st x replicas last line name c.node record { value = c.value; ver = c.ver; state = c.state } closed is (rw (nth_found [] s.names x name (sym is)) said))
copy_told s st x replicas last line None closed is = taken_err _ _

copy_line_told : (s : Script) (st : State) (stage : Stage) (line : List ℕ) → st.stage ≡ stage → IfTaken (copy_line s st stage line) (Tells s st line)
unfolding copy_line is_closed
copy_line_told s st (stages.Holders x r) line is = copy_told s st x r None line (slice_get s.names x) (rw is refl) refl
copy_line_told s st (stages.Copies x r last) line is = copy_told s st x r (Some last) line (slice_get s.names x) (rw is refl) refl
copy_line_told s st stages.Head line is = taken_err _ _
copy_line_told s st (stages.Steps n f) line is = taken_err _ _
copy_line_told s st (stages.States k) line is = taken_err _ _
copy_line_told s st (stages.Objects x) line is = taken_err _ _
copy_line_told s st stages.Ended line is = taken_err _ _

-- ---- all lines

state_line_told : (s : Script) (st : State) (k : ℕ) (line : List ℕ) → IsPlain line → is_closed st.stage ≡ true → IfTaken (state_line s st k line) (Tells s st line)
unfolding state_line
state_line_told s st k line plain closed =
    taken_cond (nat_lt k (length s.txs)) _ _ _ (λ _. state_told s st k line closed) (λ _. object_line_told s st 0 line (slice_get s.names 0) plain closed)

other_line_told : (s : Script) (st : State) (stage : Stage) (line : List ℕ) → FitsScript s → IsPlain line → st.stage ≡ stage → IfTaken (other_line s st stage line) (Tells s st line)
unfolding other_line is_closed
other_line_told s st stages.Head line fits plain is = head_told s st line plain (rw is refl)
other_line_told s st (stages.Steps n f) line fits plain is = step_line_told s st n line (slice_get s.steps n) fits plain (rw is refl) refl
other_line_told s st (stages.States k) line fits plain is = state_line_told s st k line plain (rw is refl)
other_line_told s st (stages.Objects x) line fits plain is = object_line_told s st x line (slice_get s.names x) plain (rw is refl)
other_line_told s st (stages.Holders x r) line fits plain is = lost_line_told s st x line (slice_get s.names x) plain (rw is refl)
other_line_told s st (stages.Copies x r last) line fits plain is = object_line_told s st (suc x) line (slice_get s.names (suc x)) plain (rw is refl)
other_line_told s st stages.Ended line fits plain is = taken_err _ _

line_told : (s : Script) (st : State) (line : List ℕ) → FitsScript s → IfTaken (line_taken s st line) (Tells s st line)
unfolding line_taken
line_told s st line fits =
    taken_cond (begins (codes "* ") line) _ _ _ (λ _. point_line_told s st st.stage line refl) (λ point.
    taken_cond (begins (codes "! ") line) _ _ _ (λ _. ack_line_told s st st.stage line refl) (λ ack.
    taken_cond (begins (codes "copy ") line) _ _ _ (λ _. copy_line_told s st st.stage line refl) (λ copy.
    let plain : IsPlain line = record { point = point; ack = ack; copy = copy } in
    taken_cond (begins (codes "> ") line) _ _ _ (λ _. packet_line_told s st st.stage line plain refl) (λ _. other_line_told s st st.stage line fits plain refl))))

-- what a line says that is taken
pub line-tells : (s : Script) (st : State) (line : List ℕ) (after : State) → FitsScript s → line_taken s st line ≡ Ok after → Tells s st line after
line-tells s st line after fits is = taken_is (line_taken s st line) after (Tells s st line) is (line_told s st line fits)
