-- What was begun stays begun, whatever the step.
use Rattle.std.specs.Prelude.{ℕ, zero, suc, ◌≡◌, ◌+◌, ◌-◌, ◌<◌, ◌≤◌, ◌==◌, Bool, true, false, nat_lt, List, [], ◌∷◌, length, Option, Some, None, is_some, is_none, if◌then◌else◌}
use Rattle.std.proofs.Common.{arith, refl, ap, inl, inr, subst}
use Rattle.std.proofs.lemmas.Bool.{cases_eq, cond_both}
use Rattle.zeus_base.specs.declared.order.Stream.{Stream}
use Rattle.zeus_base.specs.declared.step.Passed.{Passed}
use Rattle.zeus_base.specs.declared.step.Step.{Step}
use Rattle.zeus_base.specs.declared.step.Step.TheVariants.{Begin, Try, Deliver, Tick, Stop, View, Install}
use Rattle.zeus_base.specs.TableLaws.{nth-put_same}
use Rattle.zeus_packet.specs.declared.letter.Letter.{Letter}
use Rattle.zeus_txn.specs.declared.ops.Op.{Op}
use Rattle.zeus_txn.specs.declared.reply.Reply.{Reply}
use Rattle.zeus_model.specs.declared.answer.Answer.{Answer}
use Rattle.zeus_model.specs.declared.answer.Begin.{Begin as BeginOutcome}
use Rattle.zeus_model.specs.declared.answer.Begin.TheVariants.{Begun}
use Rattle.zeus_model.specs.declared.answer.Made.{Made}
use Rattle.zeus_model.specs.declared.answer.Tried.{Tried}
use Rattle.zeus_model.specs.declared.answer.Tried.TheVariants.{NoCopy, Read, Committed}
use Rattle.zeus_model.specs.State.{Node, slot}
use Rattle.zeus_model.specs.Tables.{nth, put, numbers_from}
use Rattle.zeus_model.specs.Local.{begin, begin_free, try_slot}
use Rattle.zeus_model.specs.Book.{Book, TxRecord, no_record, record_of, book_only, tx_of, point_once, ack_once, pass_tx, pass_numbers, book_passes, book_tried, book_point, book_reply, book_read, book_refuse, in_stream_order}
use Rattle.zeus_model.specs.World.{World, Event, node, tx_decl, link, nth_letter, begin_refused, begin_or_not, step_begin, tried_at, deliver_or_not, received_at, ticked_at, stopped_at, view_refused, view_or_not, step_install, installed_at, refuse_step, book_begun, happens, stepped}
use Rattle.machine_moves.proofs.Lists.{nth-put_other}
use Rattle.live_model.specs.Drive.{can_begin}
use Rattle.live_replay.proofs.Driving.{both_parts, not_false, can_begin-free}

abbrev pub IsBegun : Book → ℕ → Type 0
IsBegun b k = is_some (record_of b k).begun ≡ true

-- what was begun in the first book is begun in the second
abbrev pub Stays : Book → Book → Type 0
Stays b c = (k : ℕ) → IsBegun b k → IsBegun c k

begun-put : (rs : List TxRecord) (i k : ℕ) (r : TxRecord) → (is_some (nth no_record rs i).begun ≡ true → is_some r.begun ≡ true) → is_some (nth no_record rs k).begun ≡ true
    → is_some (nth no_record (put no_record rs i r) k).begun ≡ true
begun-put rs i k r stays begun =
    elim (cases_eq k i) [
      | inl same ↦ rw (same, nth-put_same no_record rs i r) (stays (subst (λ (j : ℕ). is_some (nth no_record rs j).begun ≡ true) same begun))
      | inr other ↦ rw (nth-put_other no_record rs i k r other) begun
    ]

point-stays : (o : Option ℕ) (b : Book) (id : ℕ) → Stays b (point_once b id o).book
unfolding point_once
point-stays (Some step) b id = λ k h. h
point-stays None b id = λ k h. begun-put b.records id k _ (λ g. g) h

ack-stays : (o : Option ℕ) (own : Bool) (b : Book) (id : ℕ) → Stays b (ack_once b id own o).book
unfolding ack_once
ack-stays (Some step) own b id = λ k h. h
ack-stays None true b id = λ k h. begun-put b.records id k _ (λ g. g) h
ack-stays None false b id = λ k h. h

pass_tx-stays : (o : Option ℕ) (b : Book) (own : Bool) → Stays b (pass_tx b own o).book
unfolding pass_tx
pass_tx-stays None b own = λ k h. h
pass_tx-stays (Some id) b own = λ k h. ack-stays _ own (point_once b id (record_of b id).point).book id k (point-stays (record_of b id).point b id k h)

pass_numbers-stays : (ks : List ℕ) (b : Book) (own : Bool) (s : Stream) → Stays b (pass_numbers b own s ks).book
unfolding pass_numbers
pass_numbers-stays [] b own s = λ k h. h
pass_numbers-stays (j ∷ js) b own s = λ k h. pass_numbers-stays js (pass_tx b own (tx_of b s j)).book own s k (pass_tx-stays (tx_of b s j) b own k h)

passes-stays : (ps : List Passed) (b : Book) (me : ℕ) → Stays b (book_passes b me ps).book
unfolding book_passes
passes-stays [] b me = λ k h. h
passes-stays (p ∷ ps) b me =
    λ k h. passes-stays ps (pass_numbers b (p.stream.node == me) p.stream (numbers_from p.first (p.after - p.first))).book me k
    (pass_numbers-stays (numbers_from p.first (p.after - p.first)) b (p.stream.node == me) p.stream k h)

begin-stays : (o : BeginOutcome) (b : Book) (id : ℕ) → Stays b (book_begun b id o).book
unfolding book_begun
begin-stays Begun b id = λ k h. begun-put b.records id k _ (λ g. refl) h
begin-stays _ b id = λ k h. h

read-stays : (b : Book) (id : ℕ) (reply : Reply) → Stays b (book_read b id reply).book
read-stays b id reply = λ k h.
    let c = book_reply b id reply in
    let d = book_point c id in
    begun-put d.records id k (record (record_of d id) { acked = Some d.steps }) (λ g. g)
    (begun-put c.records id k (record (record_of c id) { point = Some c.steps }) (λ g. g) (begun-put b.records id k (record (record_of b id) { reply = Some reply }) (λ g. g) h))

refuse-stays : (none : Bool) (b : Book) (id : ℕ) → Stays b (if none then book_only (book_refuse b id) else book_only b).book
refuse-stays true b id = λ k h. begun-put b.records id k (record (record_of b id) { refused = true }) (λ g. g) h
refuse-stays false b id = λ k h. h

tried-stays : (t : Tried) (b : Book) (s : Stream) (degree : Option ℕ) → Stays b (book_tried b s degree t).book
unfolding book_tried
tried-stays (Committed id number reply) b s degree = λ k h. begun-put b.records id k _ (λ g. g) h
tried-stays (Read id reply) b s degree = read-stays b id reply
tried-stays (NoCopy id x) b s degree = refuse-stays (is_none degree) b id
tried-stays _ b s degree = λ k h. h

-- ---- steps

begin_or_not-stays : (o : Option Answer) (w : World) (k : ℕ) → Stays w.book (begin_or_not w k o).world.book
unfolding begin_or_not
begin_or_not-stays (Some a) w k = λ j h. h
begin_or_not-stays None w k = begin-stays _ w.book k

try-stays : (w : World) (n s : ℕ) → Stays w.book (tried_at w n s (try_slot (node w n) s)).world.book
unfolding tried_at
try-stays w n s = λ k h.
    let t = (try_slot (node w n) s).answer in
    passes-stays (in_stream_order (try_slot (node w n) s).passed) (book_tried w.book record { node = n; slot = s } w.config.degree t).book n k
    (tried-stays t w.book record { node = n; slot = s } w.config.degree k h)

deliver-stays : (o : Option Letter) (w : World) (sender receiver : ℕ) → Stays w.book (deliver_or_not w sender receiver o).world.book
unfolding deliver_or_not received_at
deliver-stays None w sender receiver = λ k h. h
deliver-stays (Some l) w sender receiver = passes-stays _ w.book receiver

view-stays : (o : Option Made) (w : World) (set : List ℕ) → Stays w.book (view_or_not w set o).world.book
unfolding view_or_not
view-stays (Some m) w set = λ k h. h
view-stays None w set = λ k h. h

install-stays : (w : World) (n e : ℕ) → Stays w.book (step_install w n e).world.book
unfolding step_install installed_at
install-stays w n e =
    cond_both (nat_lt (length w.views) e) (refuse_step w _) _ (λ (x : Event). Stays w.book x.world.book) (λ _ k h. h) (λ _. passes-stays _ w.book n)

-- what was begun before a step is begun after it
pub step-stays : (s : Step) (w : World) → Stays w.book (stepped w s).book
unfolding happens step_begin ticked_at stopped_at
step-stays (Begin k) w = begin_or_not-stays (begin_refused w k) w k
step-stays (Try n s) w = try-stays w n s
step-stays (Deliver sender receiver i) w = deliver-stays (nth_letter (link w.links sender receiver) i) w sender receiver
step-stays (Tick n) w = λ k h. h
step-stays (Stop n) w = λ k h. h
step-stays (View set) w = view-stays (view_refused w set) w set
step-stays (Install n e) w = install-stays w n e

-- ---- a begin that is offered is answered so

no_current : {A : Type 0} (o : Option A) → is_none o ≡ true → o ≡ None
no_current None h = refl
no_current (Some a) h = absurd cc

begin-begun : (n : Node) (s id : ℕ) (tx : List Op) → n.stopped ≡ false → (slot n s).current ≡ None → (begin n s id tx).answer ≡ Begun
unfolding begin begin_free
begin-begun n s id tx live free = rw (live, free) refl

begun_at-put : (o : BeginOutcome) (b : Book) (id : ℕ) → o ≡ Begun → IsBegun (book_begun b id o).book id
unfolding book_begun
begun_at-put Begun b id is = rw (nth-put_same no_record b.records id (record (record_of b id) { begun = Some b.steps })) refl
begun_at-put _ b id is = absurd cc

begun-free : (o : Option Answer) (w : World) (k : ℕ) → o ≡ None → (begin (node w (tx_decl w k).node) (tx_decl w k).slot k (tx_decl w k).tx).answer ≡ Begun → IsBegun (begin_or_not w k o).world.book k
unfolding begin_or_not
begun-free (Some a) w k none begun = absurd cc
begun-free None w k none begun = begun_at-put _ w.book k begun

-- it was not begun before, and is afterwards
pub can_begin-begins : (w : World) (k : ℕ) → can_begin w k ≡ true → (is_some (record_of w.book k).begun ≡ false) × IsBegun (stepped w (Begin k)).book k
unfolding can_begin happens step_begin
can_begin-begins w k can =
    let a = both_parts _ _ can in
    let b = both_parts _ _ a.0 in
    let c = both_parts _ _ b.0 in
    let t = tx_decl w k in (
      ap is_some_of (no_current (record_of w.book k).begun c.0),
      begun-free (begin_refused w k) w k (can_begin-free w k can) (begin-begun (node w t.node) t.slot k t.tx (not_false (node w t.node).stopped c.1) (no_current (slot (node w t.node) t.slot).current a.1)),
    )
  where
    is_some_of : Option ℕ → Bool
    is_some_of o = is_some o

-- ---- how many are not begun

unfoldable pub unbegun : Book → List ℕ → ℕ
unbegun b [] = 0
unbegun b (k ∷ ks) = (if is_some (record_of b k).begun then 0 else 1) + unbegun b ks

weight-falls : (x y : Bool) → (x ≡ true → y ≡ true) → (if y then 0 else 1) ≤ (if x then 0 else 1)
weight-falls true y h = rw (h refl) (omega arith)
weight-falls false true h = omega arith
weight-falls false false h = omega arith

-- if what was begun stays begun, then the count of those not begun does not rise
pub unbegun-falls : (ks : List ℕ) (b c : Book) → Stays b c → unbegun c ks ≤ unbegun b ks
unfolding unbegun
unbegun-falls [] b c h = omega arith
unbegun-falls (k ∷ ks) b c h =
    let one = weight-falls (is_some (record_of b k).begun) (is_some (record_of c k).begun) (h k) in
    let rest = unbegun-falls ks b c h in omega arith

-- if one that was not begun is begun, and the others stay begun, then the count of those not begun falls by one at least
pub unbegun-one : (first count k : ℕ) (b c : Book) → Stays b c → first ≤ k → k < first + count → is_some (record_of b k).begun ≡ false → IsBegun c k
    → suc (unbegun c (numbers_from first count)) ≤ unbegun b (numbers_from first count)
unfolding unbegun numbers_from
unbegun-one first zero k b c h le less new begun = absurd (omega arith)
unbegun-one first (suc count) k b c h le less new begun =
    elim (cases_eq k first) [
      | inl same ↦
          let here_b : is_some (record_of b first).begun ≡ false = subst (λ (j : ℕ). is_some (record_of b j).begun ≡ false) same new in
          let here_c : is_some (record_of c first).begun ≡ true = subst (λ (j : ℕ). is_some (record_of c j).begun ≡ true) same begun in
          let rest = unbegun-falls (numbers_from (suc first) count) b c h in
          rw (here_b, here_c) (omega arith)
      | inr other ↦
          let one = weight-falls (is_some (record_of b first).begun) (is_some (record_of c first).begun) (h first) in
          let rest = unbegun-one (suc first) count k b c h (omega arith) (omega arith) new begun in omega arith
    ]

-- at most all of a list are not begun
pub unbegun-most : (ks : List ℕ) (b : Book) → unbegun b ks ≤ length ks
unfolding unbegun
unbegun-most [] b = omega arith
unbegun-most (k ∷ ks) b =
    let rest = unbegun-most ks b in
    let one : (if is_some (record_of b k).begun then 0 else 1) ≤ 1 = weight-one (is_some (record_of b k).begun) in omega arith
  where
    weight-one : (x : Bool) → (if x then 0 else 1) ≤ 1
    weight-one true = omega arith
    weight-one false = omega arith
