-- Each step of a run writes into the book just what it answers and tells.
use Rattle.std.specs.Prelude.{ℕ, suc, ◌≡◌, ◌-◌, Bool, true, false, nat_lt, List, [], ◌++◌, length, Option, Some, None, is_some}
use Rattle.std.proofs.Common.{arith, refl, ap, sym, ◌∙◌, inl, inr, subst}
use Rattle.std.proofs.lemmas.Bool.{cond_both}
use Rattle.std.proofs.lemmas.List.{append-nil}
use Rattle.zeus_base.specs.declared.step.Step.{Step}
use Rattle.zeus_base.specs.declared.step.Step.TheVariants.{Begin, Try, Deliver, Tick, Stop, View, Install}
use Rattle.zeus_base.specs.declared.order.Stream.{Stream}
use Rattle.zeus_base.specs.declared.step.Passed.{Passed}
use Rattle.zeus_packet.specs.declared.letter.Letter.{Letter}
use Rattle.zeus_txn.specs.Ops.{is_write}
use Rattle.zeus_model.specs.Tables.{nth, or_else, where_true}
use Rattle.zeus_model.specs.declared.answer.Answer.{Answer}
use Rattle.zeus_model.specs.declared.answer.Answer.TheVariants.{Begin as BeginAnswer, Twice, Waits, Try as TryAnswer, NoView}
use Rattle.zeus_model.specs.declared.answer.Begin.{Begin as BeginOutcome}
use Rattle.zeus_model.specs.declared.answer.Begin.TheVariants.{Stopped as BeginStopped}
use Rattle.zeus_model.specs.declared.answer.Made.{Made}
use Rattle.zeus_model.specs.declared.answer.Tried.{Tried}
use Rattle.zeus_model.specs.declared.answer.Tried.TheVariants.{Stopped, Read, NotOwner, Committed}
use Rattle.zeus_model.specs.declared.state.Current.{Current}
use Rattle.zeus_model.specs.State.{Node, slot}
use Rattle.zeus_model.specs.Act.{Did, just}
use Rattle.zeus_model.specs.Book.{Book, BookChange, Point, TxRecord, record_of, book_only, change_then, counted, book_tried, book_passes, in_stream_order}
use Rattle.zeus_model.specs.Local.{begin, Hindrance, Missing, Unready, hindrance, read_missing, read_row, write_cause, write_row, commit, commit_entry, try_current, try_slot}
use Rattle.zeus_model.specs.Membership.{install}
use Rattle.zeus_model.specs.World.{World, Event, node, tx_decl, link, refuse_step, acted, book_begun, begun_at, begin_refused, begin_or_not, step_begin, waits_for, tried_at, nth_letter, received_at, deliver_or_not, ticked_at, stopped_at, installed_at, view_refused, view_or_not, step_install, happens}
use Rattle.machine_moves.proofs.Causes.{or_else-none, where_true-none}
use Rattle.data_safety.specs.RunState.{Witness, run_state}
use Rattle.data_safety.specs.DataInvariant.{DataInvariant}
use Rattle.data_safety.proofs.steps.StepFrames.{IsObstacle, write_cause-obstructs}
use Rattle.soundness.specs.Telling.{how_often, ids_of}
use Rattle.soundness.proofs.BookChanges.{Said, nothing_said, how_often-append, IsRewritten, IsRewritten-same, IsChange, IsChange-then}
use Rattle.soundness.proofs.BookPasses.{HasReplies, HasReplies-after, SaysReplies, book_passes-change, how_often-none}
use Rattle.soundness.proofs.BookAnswers.{silence, said, said_begin, said_tried, ended_id, IsOpen, begun-change, tried-change, said_begin-replies, said_tried-replies}
use Rattle.soundness.proofs.DataSound.{system_node, some_value}

-- a step writes what it answers and tells, behind what the book had, and counts itself
pub record StepTells (w : World) (s : Step) (e : Event) : Type 0 where
  pub counts : e.world.book.steps ≡ suc w.book.steps
  pub added : List Point
  pub points : e.world.book.points ≡ w.book.points ++ added
  pub told : ids_of added ≡ e.points
  pub records : (id : ℕ) → IsRewritten w.book.steps (said w.book.steps s e.answer id) (how_often id e.points) (how_often id e.acked) (record_of w.book id) (record_of e.world.book id)
  pub replies : HasReplies e.world.book

-- ---- which transaction a try ends

-- whatever the answer ends is the current transaction of the slot
EndsCurrent : Node → ℕ → Did Tried → Type 0
EndsCurrent n s d = (id : ℕ) → ended_id d.answer ≡ Some id → (c : Current) × ((slot n s).current ≡ Some c) × (c.id ≡ id)

ends_it : (n : Node) (s : ℕ) (c : Current) (id : ℕ) → (slot n s).current ≡ Some c → ◌≡◌ {A = Option ℕ} (Some c.id) (Some id) → (d : Current) × ((slot n s).current ≡ Some d) × (d.id ≡ id)
ends_it n s c id is same = (c, is, cc)

read_missing-ends : (degree : Option ℕ) (n : Node) (s : ℕ) (c : Current) (x : ℕ) → EndsCurrent n s (read_missing n s c x degree)
unfolding EndsCurrent read_missing ended_id
read_missing-ends None n s c x id h = absurd cc
read_missing-ends (Some degree) n s c x id h = absurd cc

read_row-ends : (h : Option Hindrance) (n : Node) (s : ℕ) (c : Current) → (slot n s).current ≡ Some c → EndsCurrent n s (read_row n s c h)
unfolding EndsCurrent read_row ended_id
read_row-ends None n s c is id h = ends_it n s c id is h
read_row-ends (Some (Missing x)) n s c is id h = read_missing-ends n.degree n s c x id h
read_row-ends (Some (Unready x state)) n s c is id h = absurd cc

commit-ends : (n : Node) (s : ℕ) (c : Current) (ran : Rattle.zeus_txn.specs.declared.reply.Ran.Ran) → (slot n s).current ≡ Some c → EndsCurrent n s (commit n s c ran)
unfolding EndsCurrent commit commit_entry ended_id
commit-ends n s c ran is id h = ends_it n s c id is h

write_row-ends : (cause : Option Tried) (n : Node) (s : ℕ) (c : Current) → (slot n s).current ≡ Some c → ((a : Tried) → cause ≡ Some a → IsObstacle a) → EndsCurrent n s (write_row n s c cause)
unfolding EndsCurrent write_row ended_id IsObstacle
write_row-ends None n s c is ob id h = commit-ends n s c _ is id h
write_row-ends (Some (Committed i number reply)) n s c is ob id h = absurd (ob (Committed i number reply) refl)
write_row-ends (Some (Read i reply)) n s c is ob id h = absurd (ob (Read i reply) refl)
write_row-ends (Some (NotOwner x)) n s c is ob id h = absurd cc
write_row-ends (Some _) n s c is ob id h = absurd cc

try_current-ends : (o : Option Current) (n : Node) (s : ℕ) → (slot n s).current ≡ o → EndsCurrent n s (try_current n s o)
unfolding EndsCurrent try_current ended_id
try_current-ends None n s is id h = absurd cc
try_current-ends (Some c) n s is id h =
    cond_both (is_write c.tx) (write_row n s c (write_cause n s c.tx)) (read_row n s c (hindrance n c.tx)) (λ (d : Did Tried). EndsCurrent n s d)
    (λ _. write_row-ends (write_cause n s c.tx) n s c is (write_cause-obstructs n s c.tx))
    (λ _. read_row-ends (hindrance n c.tx) n s c is) id h

try_slot-ends : (n : Node) (s : ℕ) → EndsCurrent n s (try_slot n s)
unfolding EndsCurrent try_slot ended_id
try_slot-ends n s =
    cond_both n.stopped (just n Stopped) (try_current n s (slot n s).current) (λ (d : Did Tried). EndsCurrent n s d)
    (λ _ id h. absurd cc)
    (λ _. try_current-ends (slot n s).current n s refl)

-- ---- the current transaction has not ended

none_of : {A : Type 0} (o : Option A) → (is_some o ≡ true → ⊥) → o ≡ None
none_of None h = refl
none_of (Some a) h = absurd (h refl)

not_some : {A : Type 0} (o : Option A) → o ≡ None → is_some o ≡ true → ⊥
not_some None none some = absurd cc
not_some (Some a) none some = absurd cc

is_open : (w : World) (u : Witness) (n s : ℕ) (c : Current) → DataInvariant (run_state w) u → HasReplies w.book → (slot (node w n) s).current ≡ Some c → IsOpen (record_of w.book c.id)
is_open w u n s c f r is =
    let now = f.booked.current n s c (ap (λ (k : Node). (slot k s).current) (system_node w n) ∙ is) in
    record {
      entry = now.2;
      reply = none_of (record_of w.book c.id).reply (λ some. elim (r.ended c.id some) [
        | inl entry ↦ not_some (record_of w.book c.id).entry now.2 entry
        | inr point ↦ not_some (record_of w.book c.id).point now.3 point
      ]);
      point = now.3;
      acked = none_of (record_of w.book c.id).acked (λ some.
          let step = some_value (record_of w.book c.id).acked some in
          let point : (record_of w.book c.id).point ≡ Some step.0 = f.booked.acked_at c.id step.0 step.1 in
          absurd (cc (point, now.3)));
    }

-- ---- steps

-- a node has acted
acted_tells : (w : World) (s : Step) (n : ℕ) (after : Node) (a : Answer) (letters : List Letter) (change : BookChange) → HasReplies w.book → IsChange w.book change (said w.book.steps s a)
    → SaysReplies (said w.book.steps s a) change → StepTells w s (acted w n after a letters change)
acted_tells w s n after a letters change r h says =
    let replies : HasReplies change.book = HasReplies-after w.book change (said w.book.steps s a) r h says in
    record {
      counts = let same = h.counts in omega arith;
      added = h.added;
      points = h.points;
      told = h.told;
      records = h.records;
      replies = record { points = replies.points; entries = replies.entries; ended = replies.ended };
    }

-- a step that changes nothing but the count of steps
counted_tells : (w : World) (s : Step) (e : Event) → HasReplies w.book → e.world.book ≡ counted w.book → e.points ≡ [] → e.acked ≡ [] → ((id : ℕ) → said w.book.steps s e.answer id ≡ silence)
    → StepTells w s e
unfolding ids_of
counted_tells w s e r book points acked silent = record {
  counts = ap (λ (b : Book). b.steps) book ∙ omega arith;
  added = [];
  points = ap (λ (b : Book). b.points) book ∙ sym (append-nil w.book.points);
  told = sym points;
  records = λ id. rw (silent id, points, acked, how_often-none id, book) (IsRewritten-same w.book.steps (record_of w.book id));
  replies = rw book record { points = r.points; entries = r.entries; ended = r.ended };
}

-- the entries of a node pass
passes_tell : (w : World) (s : Step) (n : ℕ) (after : Node) (a : Answer) (letters : List Letter) (passed : List Passed) → HasReplies w.book → ((id : ℕ) → said w.book.steps s a id ≡ silence)
    → StepTells w s (acted w n after a letters (book_passes w.book n passed))
passes_tell w s n after a letters passed r silent =
    let c = book_passes w.book n passed in
    let same : nothing_said ≡ said w.book.steps s a = λ i. λ id. sym (silent id) i in
    acted_tells w s n after a letters c r
    (subst (λ (f : ℕ → Said). IsChange w.book c f) same (book_passes-change w.book n passed r))
    (λ id. rw (silent id) (λ none. absurd cc, λ none. absurd cc))

-- ---- begin

Silent : ℕ → ℕ → Option Answer → Type 0
Silent step k o = (a : Answer) → o ≡ Some a → (id : ℕ) → said step (Begin k) a id ≡ silence

or_else-silent : (step k : ℕ) (a b : Option Answer) → Silent step k a → Silent step k b → Silent step k (or_else a b)
unfolding or_else Silent
or_else-silent step k None b h g = g
or_else-silent step k (Some a) b h g = h

where_true-silent : (step k : ℕ) (test : Bool) (a : Answer) → ((id : ℕ) → said step (Begin k) a id ≡ silence) → Silent step k (where_true test a)
unfolding where_true Silent
where_true-silent step k true a h b is id = let same : a ≡ b = cc in rw (← same) (h id)
where_true-silent step k false a h b is id = absurd cc

waits-silent : (step k : ℕ) (w : World) (after : Option ℕ) → Silent step k (waits_for w after)
unfolding waits_for Silent said
waits-silent step k w None a is id = absurd cc
waits-silent step k w (Some j) a is id = where_true-silent step k _ (Waits j) (λ i. refl) a is id

begin_refused-silent : (step k : ℕ) (w : World) → Silent step k (begin_refused w k)
unfolding begin_refused said said_begin
begin_refused-silent step k w =
    or_else-silent step k _ _ (where_true-silent step k _ Twice (λ i. refl))
    (or_else-silent step k _ _ (where_true-silent step k _ (BeginAnswer BeginStopped) (λ i. refl)) (waits-silent step k w (tx_decl w k).after))

is_some-none : {A : Type 0} (o : Option A) → is_some o ≡ false → o ≡ None
is_some-none None h = refl
is_some-none (Some a) h = absurd cc

begun_tells : (w : World) (k n : ℕ) (d : Did BeginOutcome) → HasReplies w.book → (record_of w.book k).begun ≡ None → StepTells w (Begin k) (begun_at w k n d)
unfolding said
begun_tells w k n d r none =
    acted_tells w (Begin k) n d.node (BeginAnswer d.answer) [] (book_begun w.book k d.answer) r
    (begun-change w.book k d.answer none) (said_begin-replies w.book.steps k d.answer (book_begun w.book k d.answer))

begin_tells : (refused : Option Answer) (w : World) (k : ℕ) → HasReplies w.book → begin_refused w k ≡ refused → StepTells w (Begin k) (begin_or_not w k refused)
unfolding begin_or_not begin_refused Silent
begin_tells (Some a) w k r is = counted_tells w (Begin k) (refuse_step w a) r refl refl refl (begin_refused-silent w.book.steps k w a is)
begin_tells None w k r is =
    let fresh = or_else-none _ _ is in
    begun_tells w k (tx_decl w k).node (begin (node w (tx_decl w k).node) (tx_decl w k).slot k (tx_decl w k).tx) r
    (is_some-none (record_of w.book k).begun (where_true-none _ _ fresh.0))

-- ---- try

tried_tells : (w : World) (u : Witness) (n s : ℕ) → DataInvariant (run_state w) u → HasReplies w.book → StepTells w (Try n s) (tried_at w n s (try_slot (node w n) s))
unfolding tried_at said EndsCurrent
tried_tells w u n s f r =
    let t : Stream = record { node = n; slot = s } in
    let d : Did Tried = try_slot (node w n) s in
    let c : BookChange = book_tried w.book t w.config.degree d.answer in
    let passed = in_stream_order d.passed in
    let ends : (id : ℕ) → ended_id d.answer ≡ Some id → IsOpen (record_of w.book id) = λ id ended.
    let it = try_slot-ends (node w n) s id ended in
    subst (λ (j : ℕ). IsOpen (record_of w.book j)) it.2 (is_open w u n s it.0 f r it.1) in
    let first : IsChange w.book c (said_tried t d.answer) = tried-change w.book t w.config.degree d.answer ends in
    let says : SaysReplies (said_tried t d.answer) c = said_tried-replies w.book t w.config.degree d.answer in
    let then_passes = book_passes-change c.book n passed (HasReplies-after w.book c (said_tried t d.answer) r first says) in
    acted_tells w (Try n s) n d.node (TryAnswer d.answer) _ (change_then c (λ b. book_passes b n passed)) r
    (IsChange-then w.book c (book_passes c.book n passed) (said_tried t d.answer) first then_passes)
    (says_more t d.answer c (book_passes c.book n passed) says)
  where
    says_more : (t : Stream) (a : Tried) (c d : BookChange) → SaysReplies (said_tried t a) c → SaysReplies (said_tried t a) (Rattle.zeus_model.specs.Book.changes_joined c d)
    says_more t a c d says id = (
      (says id).0,
      λ some. elim ((says id).1 some) [
        | inl entry ↦ inl entry
        | inr told ↦ inr (rw (how_often-append id c.points d.points) (omega arith))
      ],
    )

-- ---- the other steps

deliver_tells : (letter : Option Letter) (w : World) (from to i : ℕ) → HasReplies w.book → StepTells w (Deliver from to i) (deliver_or_not w from to letter)
unfolding deliver_or_not received_at said
deliver_tells None w from to i r = counted_tells w (Deliver from to i) _ r refl refl refl (λ id. refl)
deliver_tells (Some l) w from to i r = passes_tell w (Deliver from to i) to _ _ _ _ r (λ id. refl)

view_tells : (refused : Option Made) (w : World) (set : List ℕ) → HasReplies w.book → StepTells w (View set) (view_or_not w set refused)
unfolding view_or_not said
view_tells (Some m) w set r = counted_tells w (View set) _ r refl refl refl (λ id. refl)
view_tells None w set r = counted_tells w (View set) _ r refl refl refl (λ id. refl)

install_tells : (w : World) (n e : ℕ) → HasReplies w.book → StepTells w (Install n e) (step_install w n e)
unfolding step_install installed_at said
install_tells w n e r =
    cond_both (nat_lt (length w.views) e) (refuse_step w (NoView (length w.views))) (installed_at w n (install (node w n) record { epoch = e; members = nth [] w.views (e - 1) }))
    (λ (x : Event). StepTells w (Install n e) x)
    (λ _. counted_tells w (Install n e) _ r refl refl refl (λ id. refl))
    (λ _. passes_tell w (Install n e) n _ _ _ _ r (λ id. refl))

still_tells : (w : World) (s : Step) (n : ℕ) (after : Node) (a : Answer) (letters : List Letter) → HasReplies w.book → ((id : ℕ) → said w.book.steps s a id ≡ silence)
    → StepTells w s (acted w n after a letters (book_only w.book))
still_tells w s n after a letters r silent = counted_tells w s (acted w n after a letters (book_only w.book)) r refl refl refl silent

-- each step tells what it writes
pub step_tells : (w : World) (u : Witness) (s : Step) → DataInvariant (run_state w) u → HasReplies w.book → StepTells w s (happens w s)
unfolding happens step_begin ticked_at stopped_at said
step_tells w u (Begin k) f r = begin_tells (begin_refused w k) w k r refl
step_tells w u (Try n s) f r = tried_tells w u n s f r
step_tells w u (Deliver from to i) f r = deliver_tells (nth_letter (link w.links from to) i) w from to i r
step_tells w u (Tick n) f r = still_tells w (Tick n) n _ _ _ r (λ id. refl)
step_tells w u (Stop n) f r = still_tells w (Stop n) n _ _ _ r (λ id. refl)
step_tells w u (View set) f r = view_tells (view_refused w set) w set r
step_tells w u (Install n e) f r = install_tells w n e r
