-- What stays of a world from step to step.
use Rattle.std.proofs.Common.{ℕ, ◌≡◌, ◌-◌, Bool, true, false, List, [], Option, Some, None, length, refl, inl, inr}
use Rattle.std.specs.Prelude.{nat_lt}
use Rattle.std.proofs.lemmas.Bool.{cases_eq, cond_both}
use Rattle.zeus_base.specs.TableLaws.{nth-put_same, nth-put_other}
use Rattle.zeus_base.specs.declared.step.Step.{Step}
use Rattle.zeus_base.specs.declared.step.Step.TheVariants.{Begin, Try, Deliver, Tick, Stop, View, Install}
use Rattle.zeus_packet.specs.declared.letter.Letter.{Letter}
use Rattle.zeus_model.specs.Tables.{nth, put}
use Rattle.zeus_model.specs.State.{Node}
use Rattle.zeus_model.specs.Book.{Book, BookChange, book_only, counted, book_passes, book_tried, change_then, in_stream_order}
use Rattle.zeus_model.specs.Local.{begin, try_slot}
use Rattle.zeus_model.specs.Membership.{install, stop, tick}
use Rattle.zeus_model.specs.Receive.{receive}
use Rattle.zeus_model.specs.World.{World, Event, node, no_node, tx_decl, link, refuse_step, book_begun, first_64, acted, begun_at, begin_refused, begin_or_not, step_begin, tried_at, nth_letter, received_at, deliver_or_not, ticked_at, stopped_at, installed_at, view_refused, view_or_not, step_install, happens, stepped}
use Rattle.zeus_model.specs.declared.answer.Answer.{Answer}
use Rattle.zeus_model.specs.declared.answer.Answer.TheVariants.{Begin as BeginAnswer, Try as TryAnswer, NoPacket, Receive, Tick as TickAnswer, Stop as StopAnswer, View as ViewAnswer, NoView, Install as InstallAnswer}
use Rattle.zeus_model.specs.declared.answer.Made.{Made}
use Rattle.random_schedule.proofs.Growing.{BookGrows, book-same, begun-grows, passes-grow, try-grows}
use Rattle.random_schedule.proofs.Rows.{StaysStopped, begin-stays, try-stays, tick-stays, stop-stays, install-stays, receive-stays}

-- the configuration and the transactions stay, stopped nodes stay stopped, and the book grows
pub record WorldGrows (w v : World) : Type 0 where
  pub config : v.config ≡ w.config
  pub txs : v.txs ≡ w.txs
  pub stopped : (n : ℕ) → (node w n).stopped ≡ true → (node v n).stopped ≡ true
  pub book : BookGrows w.book v.book

-- a node has acted
acted-stopped : (ns : List Node) (n : ℕ) (after : Node) → StaysStopped (nth no_node ns n) after → (k : ℕ) → (nth no_node ns k).stopped ≡ true → (nth no_node (put no_node ns n after) k).stopped ≡ true
acted-stopped ns n after s k h = elim (cases_eq n k) [
  | inl same ↦ rw (← same, nth-put_same no_node ns n after) (s.stays (rw same h))
  | inr other ↦ rw (nth-put_other no_node ns n k after other) h
]

acted-grows : (w : World) (n : ℕ) (after : Node) (a : Answer) (letters : List Letter) (change : BookChange) → StaysStopped (node w n) after → BookGrows w.book change.book
    → WorldGrows w (acted w n after a letters change).world
acted-grows w n after a letters change s b = record {
  config = refl;
  txs = refl;
  stopped = acted-stopped w.nodes n after s;
  book = record { records = b.records };
}

counted-grows : (w : World) (a : Answer) → WorldGrows w (refuse_step w a).world
counted-grows w a =
    let same = book-same w.book in
    record { config = refl; txs = refl; stopped = λ n h. h; book = record { records = same.records } }

begin-grows : (o : Option Answer) (w : World) (k : ℕ) → WorldGrows w (begin_or_not w k o).world
unfolding begin_or_not
begin-grows (Some a) w k = counted-grows w a
begin-grows None w k =
    let t = tx_decl w k in
    let d = begin (node w t.node) t.slot k t.tx in
    acted-grows w t.node d.node (BeginAnswer d.answer) [] (book_begun w.book k d.answer) (begin-stays (node w t.node) t.slot k t.tx) (begun-grows d.answer w.book k)

deliver-grows : (o : Option Letter) (w : World) (from to : ℕ) → WorldGrows w (deliver_or_not w from to o).world
unfolding deliver_or_not received_at
deliver-grows None w from to = counted-grows w (NoPacket (length (link w.links from to)))
deliver-grows (Some l) w from to =
    let d = receive (node w to) l in
    acted-grows w to d.node (Receive d.answer) (first_64 d.sent) (book_passes w.book to (in_stream_order d.passed)) (receive-stays (node w to) l)
    (passes-grow (in_stream_order d.passed) to w.book)

view-grows : (o : Option Made) (w : World) (set : List ℕ) → WorldGrows w (view_or_not w set o).world
unfolding view_or_not
view-grows (Some m) w set = counted-grows w (ViewAnswer m)
view-grows None w set =
    let same = book-same w.book in
    record { config = refl; txs = refl; stopped = λ n h. h; book = record { records = same.records } }

install-grows : (w : World) (n e : ℕ) → WorldGrows w (step_install w n e).world
unfolding step_install installed_at
install-grows w n e =
    let d = install (node w n) record { epoch = e; members = nth [] w.views (e - 1) } in
    cond_both (nat_lt (length w.views) e) (refuse_step w (NoView (length w.views))) (installed_at w n d) (λ (x : Event). WorldGrows w x.world)
    (λ _. counted-grows w (NoView (length w.views)))
    (λ _. acted-grows w n d.node (InstallAnswer d.answer) (first_64 d.sent) (book_passes w.book n (in_stream_order d.passed)) (install-stays (node w n) record { epoch = e; members = nth [] w.views (e - 1) }) (passes-grow (in_stream_order d.passed) n w.book))

-- each step keeps what stays
pub step-grows : (w : World) (s : Step) → WorldGrows w (stepped w s)
unfolding happens step_begin tried_at ticked_at stopped_at
step-grows w (Begin k) = begin-grows (begin_refused w k) w k
step-grows w (Try n s) =
    let d = try_slot (node w n) s in
    let passed = in_stream_order d.passed in
    acted-grows w n d.node (TryAnswer d.answer) (first_64 d.sent) (change_then (book_tried w.book record { node = n; slot = s } w.config.degree d.answer) (λ b. book_passes b n passed))
    (try-stays (node w n) s) (try-grows d.answer record { node = n; slot = s } w.config.degree n passed w.book)
step-grows w (Deliver from to i) = deliver-grows (nth_letter (link w.links from to) i) w from to
step-grows w (Tick n) =
    let d = tick (node w n) in
    acted-grows w n d.node (TickAnswer d.answer) (first_64 d.sent) (book_only w.book) (tick-stays (node w n)) (book-same w.book)
step-grows w (Stop n) =
    let d = stop (node w n) in
    acted-grows w n d.node (StopAnswer d.answer) [] (book_only w.book) (stop-stays (node w n)) (book-same w.book)
step-grows w (View set) = view-grows (view_refused w set) w set
step-grows w (Install n e) = install-grows w n e
