-- Over a run of a script: all texts of the world, and all that the steps send, stay within a line.
use Rattle.std.proofs.Common.{ℕ, zero, suc, ◌≡◌, ◌≢◌, ◌≤◌, ◌-◌, Bool, true, false, List, [], ◌∷◌, length, map, Option, Some, None, refl, arith, subst, sym, ◌∙◌}
use Rattle.std.specs.Prelude.{All, nat_lt, replicate, if◌then◌else◌}
use Rattle.std.proofs.lemmas.Bool.{cond_both, ne_eqb}
use Rattle.std.proofs.lemmas.List.Elements.{All-nil, All-cons, All-head, All-tail, All-map, All-replicate, All-weaker}
use Rattle.zeus_base.specs.Nodes.{has}
use Rattle.zeus_base.specs.declared.config.Config.{Config}
use Rattle.zeus_base.specs.declared.config.ObjectDecl.{ObjectDecl}
use Rattle.zeus_base.specs.declared.step.Step.{Step}
use Rattle.zeus_base.specs.declared.step.Step.TheVariants.{Begin, Try, Deliver, Tick, Stop, View, Install}
use Rattle.zeus_base.specs.declared.value.Value.{Value}
use Rattle.zeus_base.specs.declared.value.Value.TheVariants.{Num, Text}
use Rattle.zeus_packet.specs.declared.letter.Letter.{Letter}
use Rattle.zeus_txn.specs.declared.ops.Op.{Op}
use Rattle.zeus_txn.specs.declared.ops.Op.TheVariants.{Get, Put, Add, Need, Same}
use Rattle.zeus_txn.specs.declared.tx.TxDecl.{TxDecl}
use Rattle.zeus_model.specs.declared.answer.Answer.{Answer}
use Rattle.zeus_model.specs.declared.answer.Answer.TheVariants.{NoView}
use Rattle.zeus_model.specs.declared.answer.Made.{Made}
use Rattle.zeus_model.specs.declared.script.Script.{Script}
use Rattle.zeus_model.specs.In.{In, here, there}
use Rattle.zeus_model.specs.Membership.{install}
use Rattle.zeus_model.specs.Scripts.{FitsScript, FitTxs, FitsOp, FitsVersion, FitsValue}
use Rattle.zeus_model.specs.Spelling.{value_text}
use Rattle.zeus_model.specs.State.{no_slot, no_log}
use Rattle.zeus_model.specs.Tables.{nth, below, where_true}
use Rattle.zeus_model.specs.World.{World, Event, no_node, no_tx, node, start, start_node, start_copy, start_gather, link, posted, packets, happens, stepped, run, events, step_begin, begin_or_not, begin_refused, tried_at, deliver_or_not, received_at, ticked_at, stopped_at, view_or_not, view_refused, step_install, installed_at, nth_letter, all_posted, refuse_step}
use Rattle.machine_moves.specs.Fits.{StepFits}
use Rattle.machine_moves.specs.SystemState.{system, all_of}
use Rattle.machine_moves.proofs.Links.{In-to_link, sent-new}
use Rattle.machine_moves.proofs.Lists.{In-nothing}
use Rattle.machine_moves.proofs.Start.{start-config}
use Rattle.machine_moves.proofs.Steps.{IsStep, step_is_moves}
use Rattle.data_safety.specs.RunState.{run_state}
use Rattle.data_safety.proofs.steps.StepRuns.{moves_txs, start-txs}
use Rattle.data_safety.proofs.steps.StepMoves.{step_is_run_moves}
use Rattle.soundness.proofs.Fitting.{fits-steps}
use Rattle.soundness.proofs.Runs.{IsReached, start-reached, step-reached}
use Rattle.printed_history.proofs.Lines.{lacks, is_line}
use Rattle.printed_history.proofs.Nodes.{OneLineCopy, OneLineGather, OneLineCurrent, OneLineSlot, OneLineLog, OneLineNode, nth-one_line}
use Rattle.printed_history.proofs.Systems.{OneLineBody, OneLineSystem, OneLineTxs, run_moves-one_line}
use Rattle.printed_history.proofs.Texts.{OneLinePacket}
use Rattle.printed_history.proofs.Values.{IsOneLine, OneLineOp, one_line-num}

-- ---- a script's own texts

text_bytes : (bytes : List ℕ) → All (λ b. (33 ≤ b) × (b ≤ 126)) bytes → is_line bytes ≡ true
unfolding lacks
text_bytes [] h = refl
text_bytes (b ∷ bs) h =
    let first = All-head (λ (c : ℕ). (33 ≤ c) × (c ≤ 126)) b bs h in
    let other : b ≢ 10 = λ e. absurd (omega (arith, first.0, e)) in
    rw (ne_eqb b 10 other) (text_bytes bs (All-tail (λ (c : ℕ). (33 ≤ c) × (c ≤ 126)) b bs h))

-- if a value fits the script's version, then its text stays within a line
pub value-one_line : (version : ℕ) (v : Value) → FitsValue version v → IsOneLine v
unfolding FitsValue value_text lacks
value-one_line version (Num n) h = one_line-num n h
value-one_line version (Text bytes) h = record { fits = (refl, h.1); text = text_bytes bytes h.1.2 }

op-one_line : (c : Config) (op : Op) → FitsOp c op → OneLineOp op
unfolding OneLineOp FitsVersion
op-one_line c (Get x) h = tt
op-one_line c (Put x v) h = value-one_line c.version v h.version
op-one_line c (Add x n) h = tt
op-one_line c (Need x n) h = tt
op-one_line c (Same x v) h = tt

fit_txs-one_line : (c : Config) (k : ℕ) (txs : List TxDecl) → FitTxs c k txs → OneLineTxs txs
unfolding FitTxs nth
fit_txs-one_line c k [] h id = All-nil OneLineOp
fit_txs-one_line c k (t ∷ ts) h zero = let first = h.0 in All-weaker (FitsOp c) OneLineOp (op-one_line c) t.tx first.ops
fit_txs-one_line c k (t ∷ ts) h (suc id) = fit_txs-one_line c (suc k) ts h.1 id

-- the transactions have at most 16 operations
abbrev pub FewOps : List TxDecl → Type 0
FewOps txs = (id : ℕ) → length (nth no_tx txs id).tx ≤ 16

-- if transactions fit, then each has at most 16 operations
pub fit_txs-few : (c : Config) (k : ℕ) (txs : List TxDecl) → FitTxs c k txs → FewOps txs
unfolding FitTxs nth
fit_txs-few c k [] h id = omega arith
fit_txs-few c k (t ∷ ts) h zero = let first = h.0 in let made = first.tx in made.few
fit_txs-few c k (t ∷ ts) h (suc id) = fit_txs-few c (suc k) ts h.1 id

-- ---- the start

start_copy-one_line : (me : ℕ) (o : ObjectDecl) → IsOneLine o.value → OneLineCopy (start_copy me o)
unfolding start_copy where_true OneLineCopy
start_copy-one_line me o h = cond_both (has me o.replicas) (Some _) None OneLineCopy (λ _. h) (λ _. tt)

start_copies-one_line : (me : ℕ) (os : List ObjectDecl) → All (λ o. IsOneLine o.value) os → (x : ℕ) → OneLineCopy (nth None (map (start_copy me) os) x)
unfolding nth OneLineCopy
start_copies-one_line me [] h x = tt
start_copies-one_line me (o ∷ os) h zero = start_copy-one_line me o (All-head (λ (d : ObjectDecl). IsOneLine d.value) o os h)
start_copies-one_line me (o ∷ os) h (suc x) = start_copies-one_line me os (All-tail (λ (d : ObjectDecl). IsOneLine d.value) o os h) x

start_gathers-one_line : (os : List ObjectDecl) (x : ℕ) → OneLineGather (nth None (map start_gather os) x)
unfolding nth OneLineGather start_gather
start_gathers-one_line [] x = tt
start_gathers-one_line (o ∷ os) zero = tt
start_gathers-one_line (o ∷ os) (suc x) = start_gathers-one_line os x

no_slot-one_line : OneLineSlot no_slot
unfolding OneLineCurrent
no_slot-one_line = record { current = tt; pending = All-nil _ }

no_log-one_line : OneLineLog no_log
no_log-one_line = record { kept = All-nil _ }

start_node-one_line : (c : Config) (me : ℕ) → All (λ o. IsOneLine o.value) c.objects → OneLineNode (start_node c me)
unfolding start_node
start_node-one_line c me h = record {
  copies = start_copies-one_line me c.objects h;
  gathers = start_gathers-one_line c.objects;
  slots = λ s. nth-one_line OneLineSlot no_slot (replicate c.slots no_slot) s no_slot-one_line (All-replicate OneLineSlot c.slots no_slot no_slot-one_line);
  logs = λ m s. nth-one_line OneLineLog no_log (nth [] (replicate c.nodes (replicate c.slots no_log)) m) s no_log-one_line
      (nth-one_line (All OneLineLog) [] (replicate c.nodes (replicate c.slots no_log)) m (All-nil OneLineLog)
      (All-replicate (All OneLineLog) c.nodes (replicate c.slots no_log) (All-replicate OneLineLog c.slots no_log no_log-one_line)));
}

no_node-one_line : OneLineNode no_node
unfolding nth OneLineCopy OneLineGather
no_node-one_line = record {
  copies = λ x. tt;
  gathers = λ x. tt;
  slots = λ s. no_slot-one_line;
  logs = λ m s. no_log-one_line;
}

All-each : {A : Type 0} (P : A → Type 0) (xs : List A) → ((x : A) → P x) → All P xs
All-each P [] h = All-nil P
All-each P (x ∷ xs) h = All-cons P x xs (h x) (All-each P xs h)

-- a link has no letter
abbrev IsUnsent : Letter → List Letter → Type 0
IsUnsent l ls = In l ls → ⊥

unsent : (c : Config) (txs : List TxDecl) (from to : ℕ) (l : Letter) → IsUnsent l (link (start c txs).links from to)
unfolding start
unsent c txs from to l =
    let none : IsUnsent l [] = λ i. In-nothing l i in
    nth-one_line (IsUnsent l) [] (nth [] (replicate c.nodes (replicate c.nodes [])) from) to none
    (nth-one_line (All (IsUnsent l)) [] (replicate c.nodes (replicate c.nodes [])) from (All-nil (IsUnsent l))
    (All-replicate (All (IsUnsent l)) c.nodes (replicate c.nodes []) (All-replicate (IsUnsent l) c.nodes [] none)))

start-one_line : (c : Config) (txs : List TxDecl) → All (λ o. IsOneLine o.value) c.objects → OneLineSystem (system (start c txs))
unfolding system start
start-one_line c txs h = record {
  nodes = λ n. nth-one_line OneLineNode no_node (map (start_node c) (below c.nodes)) n no_node-one_line
      (All-map OneLineNode (start_node c) (below c.nodes) (All-each (λ k. OneLineNode (start_node c k)) (below c.nodes) (λ k. start_node-one_line c k h)));
  letters = λ l i. let on = In-to_link (start c txs).links l i in absurd (unsent c txs on.from on.to l on.is);
}

-- ---- what a step sends is among the letters

-- what holds of each element that stands in a list
pub All-in : {A : Type 0} (P : A → Type 0) (xs : List A) → ((x : A) → In x xs → P x) → All P xs
All-in P [] h = All-nil P
All-in P (x ∷ xs) h = All-cons P x xs (h x (here x xs refl)) (All-in P xs (λ y i. h y (there x xs i)))

packets-one_line : (links : List (List (List Letter))) (ls : List Letter) → All (λ l. OneLineBody l.body) ls → All OneLinePacket (packets links ls)
unfolding packets
packets-one_line links [] h = All-nil OneLinePacket
packets-one_line links (l ∷ ls) h =
    All-cons OneLinePacket _ (packets (posted links l) ls) (All-head (λ (k : Letter). OneLineBody k.body) l ls h)
    (packets-one_line (posted links l) ls (All-tail (λ (k : Letter). OneLineBody k.body) l ls h))

-- letters that were posted are of one line each
sent-one_line : (w : World) (ls : List Letter) (new : World) → new.links ≡ all_posted w.links ls → OneLineSystem (system new) → All OneLinePacket (packets w.links ls)
unfolding system
sent-one_line w ls new is k =
    packets-one_line w.links ls (All-in (λ (l : Letter). OneLineBody l.body) ls
    (λ l i. k.letters l (subst (λ (links : List (List (List Letter))). In l (all_of (all_of links))) (sym is) (sent-new w.links ls l i))))

abbrev SendsOneLine : Event → Type 0
SendsOneLine e = OneLineSystem (system e.world) → All OneLinePacket e.sent

begin-sends : (w : World) (k : ℕ) (a : Option Answer) → SendsOneLine (begin_or_not w k a)
unfolding begin_or_not
begin-sends w k None h = sent-one_line w [] (begin_or_not w k None).world refl h
begin-sends w k (Some a) h = All-nil OneLinePacket

deliver-sends : (w : World) (from to : ℕ) (l : Option Letter) → SendsOneLine (deliver_or_not w from to l)
unfolding deliver_or_not received_at
deliver-sends w from to None h = All-nil OneLinePacket
deliver-sends w from to (Some l) h = sent-one_line w _ (deliver_or_not w from to (Some l)).world refl h

view-sends : (w : World) (set : List ℕ) (m : Option Made) → SendsOneLine (view_or_not w set m)
unfolding view_or_not
view-sends w set None h = All-nil OneLinePacket
view-sends w set (Some m) h = All-nil OneLinePacket

choice_sends : (test : Bool) (a b : Event) → SendsOneLine a → SendsOneLine b → SendsOneLine (if test then a else b)
choice_sends true a b p q = p
choice_sends false a b p q = q

step-sends : (w : World) (s : Step) → SendsOneLine (happens w s)
unfolding happens step_begin tried_at ticked_at stopped_at step_install installed_at
step-sends w (Begin k) h = begin-sends w k (begin_refused w k) h
step-sends w (Try n s) h = sent-one_line w _ (stepped w (Try n s)) refl h
step-sends w (Deliver from to i) h = deliver-sends w from to (nth_letter (link w.links from to) i) h
step-sends w (Tick n) h = sent-one_line w _ (stepped w (Tick n)) refl h
step-sends w (Stop n) h = sent-one_line w _ (stepped w (Stop n)) refl h
step-sends w (View set) h = view-sends w set (view_refused w set) h
step-sends w (Install n e) h =
    choice_sends (nat_lt (length w.views) e) (refuse_step w (NoView (length w.views))) (installed_at w n (install (node w n) record { epoch = e; members = nth [] w.views (e - 1) }))
    (λ k. All-nil OneLinePacket) (λ k. sent-one_line w _ (installed_at w n (install (node w n) record { epoch = e; members = nth [] w.views (e - 1) })).world refl k) h

-- ---- runs

-- the transactions and the world at the end, and what the steps send
pub record OneLineRun (w : World) (steps : List Step) : Type 0 where
  pub ops : OneLineTxs (run w steps).txs
  pub txs : (run w steps).txs ≡ w.txs
  pub ended : OneLineSystem (system (run w steps))
  pub sent : All (λ e. All OneLinePacket e.sent) (events w steps)

run-one_line : (c : Config) (txs : List TxDecl) (steps : List Step) (w : World) → w.config ≡ c → w.txs ≡ txs → IsReached w → OneLineTxs txs → OneLineSystem (system w) → All (StepFits c txs) steps → OneLineRun w steps
unfolding run events
run-one_line c txs [] w config same r ops k fits = record { ops = subst OneLineTxs (sym same) ops; txs = refl; ended = k; sent = All-nil _ }
run-one_line c txs (s ∷ ss) w config same r ops k fits =
    let first : StepFits c txs s = All-head (StepFits c txs) s ss fits in
    let moved : IsStep w (stepped w s) = step_is_moves w s txs r.usual (rw config first) in
    let moves = step_is_run_moves w s r.usual (rw (config, same) first) in
    let kept : (stepped w s).txs ≡ w.txs = moves_txs (run_state w) (run_state (stepped w s)) moves in
    let next : OneLineSystem (system (stepped w s)) = run_moves-one_line (run_state w) (run_state (stepped w s)) moves (subst OneLineTxs (sym same) ops) k in
    let rest = run-one_line c txs ss (stepped w s) (moved.config ∙ config) (kept ∙ same) (step-reached c txs w s config same r first) ops next (All-tail (StepFits c txs) s ss fits) in
    record { ops = rest.ops; txs = rest.txs ∙ kept; ended = rest.ended; sent = All-cons (λ (e : Event). All OneLinePacket e.sent) (happens w s) (events (stepped w s) ss) (step-sends w s next) rest.sent }

-- if a script fits, then all texts of its run stay within a line
pub script-one_line : (s : Script) → FitsScript s → OneLineRun (start s.config s.txs) s.steps
script-one_line s fits =
    let c = s.config in
    let txs = s.txs in
    let fit = fits.txs in
    run-one_line c txs s.steps (start c txs) (start-config c txs) (start-txs c txs) (start-reached c txs fits.config fit.each) (fit_txs-one_line c 0 txs fit.each)
    (start-one_line c txs (All-weaker (λ (o : ObjectDecl). FitsValue c.version o.value) (λ (o : ObjectDecl). IsOneLine o.value) (λ o h. value-one_line c.version o.value h) c.objects fits.values))
    (fits-steps c txs s.steps fits.steps)
