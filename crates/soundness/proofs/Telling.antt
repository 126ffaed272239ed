-- Over a run: what its steps tell, one after another, is what the book has.
use Rattle.std.specs.Prelude.{ℕ, zero, suc, ◌≡◌, ◌+◌, ◌≤◌, List, [], ◌∷◌, ◌++◌, length, Option, Some, None, slice_get}
use Rattle.std.proofs.Common.{arith, refl, ap, sym, ◌∙◌}
use Rattle.std.proofs.lemmas.List.{append-nil, append_assoc}
use Rattle.zeus_base.specs.declared.step.Step.{Step}
use Rattle.zeus_model.specs.Book.{EntryId, Point, TxRecord, record_of}
use Rattle.zeus_model.specs.World.{World, Event, events, happens, run, stepped}
use Rattle.zeus_txn.specs.declared.reply.Reply.{Reply}
use Rattle.soundness.specs.Telling.{how_often, ids_of, told_points, told_acks}
use Rattle.soundness.proofs.Written.{Writes, leaves, fills, Written, ended, onward}
use Rattle.soundness.proofs.BookChanges.{Notes, keeps, notes, IsRewritten, how_often-append, ids_of-append}
use Rattle.soundness.proofs.BookPasses.{HasReplies}
use Rattle.soundness.proofs.BookAnswers.{said}
use Rattle.soundness.proofs.StepChanges.{StepTells}

-- ---- something of each step

-- what a function makes of each step, its number and what it does
unfoldable pub along : {A : Type 0} → (ℕ → Step → Event → A) → ℕ → World → List Step → List A
along f k w [] = []
along f k w (s ∷ ss) = f k s (happens w s) ∷ along f (suc k) (stepped w s) ss

-- the step of this place, and what it does
pub record IsAt (w : World) (steps : List Step) (k : ℕ) (s : Step) (e : Event) : Type 0 where
  pub step : slice_get steps k ≡ Some s
  pub event : slice_get (events w steps) k ≡ Some e

IsAt-next : (w : World) (s t : Step) (ss : List Step) (k : ℕ) (e : Event) → IsAt (stepped w s) ss k t e → IsAt w (s ∷ ss) (suc k) t e
unfolding events
IsAt-next w s t ss k e h = record { step = h.step; event = h.event }

-- if something was made along a run at a place, then a step and its event stand there and it was made of these
pub along-found : {A : Type 0} (f : ℕ → Step → Event → A) (j : ℕ) (w : World) (ss : List Step) (k : ℕ) (a : A) → slice_get (along f j w ss) k ≡ Some a
    → (s : Step) × (e : Event) × IsAt w ss k s e × (f (j + k) s e ≡ a)
unfolding along events
along-found f j w [] k a h = absurd cc
along-found f j w (s ∷ ss) zero a h =
    let same : j + 0 ≡ j = omega arith in
    (s, happens w s, record { step = refl; event = refl }, rw same cc)
along-found f j w (s ∷ ss) (suc k) a h =
    let more = along-found f (suc j) (stepped w s) ss k a h in
    let same : j + suc k ≡ suc j + k = omega arith in
    (more.0, more.1, IsAt-next w s more.0 ss k more.1 more.2, rw same more.3)

-- if a step and its event stand at a place of a run, then what is made of them stands there
pub along-there : {A : Type 0} (f : ℕ → Step → Event → A) (j : ℕ) (w : World) (ss : List Step) (k : ℕ) (s : Step) (e : Event) → IsAt w ss k s e
    → slice_get (along f j w ss) k ≡ Some (f (j + k) s e)
unfolding along events
along-there f j w [] k s e h = let at = h.step in absurd cc
along-there f j w (t ∷ ss) zero s e h =
    let same : j + 0 ≡ j = omega arith in
    let step : t ≡ s = let at = h.step in cc in
    let event : happens w t ≡ e = let at = h.event in cc in
    rw (same, ← step, ← event) refl
along-there f j w (t ∷ ss) (suc k) s e h =
    let same : j + suc k ≡ suc j + k = omega arith in
    rw same (along-there f (suc j) (stepped w t) ss k s e record { step = h.step; event = h.event })

-- where something is done, there is a step
pub step_there : (w : World) (ss : List Step) (k : ℕ) (e : Event) → slice_get (events w ss) k ≡ Some e → (s : Step) × IsAt w ss k s e
unfolding events
step_there w [] k e h = absurd cc
step_there w (s ∷ ss) zero e h = (s, record { step = refl; event = h })
step_there w (s ∷ ss) (suc k) e h =
    let more = step_there (stepped w s) ss k e h in
    let found = more.1 in
    (more.0, record { step = found.step; event = found.event })

-- ---- what a step tells of one transaction

-- the step, if the transaction is told at all
unfoldable pub at_step : ℕ → ℕ → Option ℕ
at_step k zero = None
at_step k (suc n) = Some k

abbrev pub begun_at : ℕ → ℕ → Step → Event → Option ℕ
begun_at id k s e = (said k s e.answer id).begun

abbrev pub entry_at : ℕ → ℕ → Step → Event → Option EntryId
entry_at id k s e = (said k s e.answer id).entry

abbrev pub reply_at : ℕ → ℕ → Step → Event → Option Reply
reply_at id k s e = (said k s e.answer id).reply

abbrev pub point_at : ℕ → ℕ → Step → Event → Option ℕ
point_at id k s e = at_step k (how_often id e.points)

abbrev pub acked_at : ℕ → ℕ → Step → Event → Option ℕ
acked_at id k s e = at_step k (how_often id e.acked)

Notes-writes : (k n : ℕ) (old new : Option ℕ) → Notes k n old new → Writes (at_step k n) old new
unfolding at_step
Notes-writes k n old new (keeps _) = leaves old
Notes-writes k n old new notes = fills k

-- ---- over a run

-- how often it may be told from now on: not at all where it was told before, and else once
unfoldable pub FitsOnce : Option ℕ → ℕ → Type 0
FitsOnce None n = n ≤ 1
FitsOnce (Some k) n = n ≡ 0

FitsOnce-then : (k m n : ℕ) (old mid : Option ℕ) → Notes k m old mid → FitsOnce mid n → FitsOnce old (m + n)
unfolding FitsOnce
FitsOnce-then k m n old mid (keeps _) h = let none : 0 + n ≡ n = omega arith in rw none h
FitsOnce-then k m n old mid notes h = omega arith

-- that nothing more is told fits whatever was told before
pub FitsOnce-none : (o : Option ℕ) → FitsOnce o 0
unfolding FitsOnce
FitsOnce-none None = omega arith
FitsOnce-none (Some k) = refl

-- what the steps write into the record of a transaction
pub record Writing (k : ℕ) (w : World) (ss : List Step) (id : ℕ) (old new : TxRecord) : Type 0 where
  pub begun : Written (along (begun_at id) k w ss) old.begun new.begun
  pub entry : Written (along (entry_at id) k w ss) old.entry new.entry
  pub reply : Written (along (reply_at id) k w ss) old.reply new.reply
  pub point : Written (along (point_at id) k w ss) old.point new.point
  pub acked : Written (along (acked_at id) k w ss) old.acked new.acked
  pub once : FitsOnce old.acked (how_often id (told_acks (events w ss)))

pub record RunTells (w : World) (ss : List Step) : Type 0 where
  pub counts : (run w ss).book.steps ≡ w.book.steps + length ss
  pub points : ids_of (run w ss).book.points ≡ ids_of w.book.points ++ told_points (events w ss)
  pub records : (id : ℕ) → Writing w.book.steps w ss id (record_of w.book id) (record_of (run w ss).book id)
  pub replies : HasReplies (run w ss).book

-- if the book has the replies of its history, then a run of no steps tells what the book has
pub RunTells-none : (w : World) → HasReplies w.book → RunTells w []
unfolding run events told_points told_acks along how_often
RunTells-none w r = record {
  counts = omega arith;
  points = sym (append-nil (ids_of w.book.points));
  records = λ id.
      let old = record_of w.book id in
      record {
        begun = ended old.begun;
        entry = ended old.entry;
        reply = ended old.reply;
        point = ended old.point;
        acked = ended old.acked;
        once = FitsOnce-none old.acked;
      };
  replies = r;
}

writing_more : (k : ℕ) (w : World) (s : Step) (ss : List Step) (id : ℕ) (old mid new : TxRecord)
    → IsRewritten k (said k s (happens w s).answer id) (how_often id (happens w s).points) (how_often id (happens w s).acked) old mid
    → Writing (suc k) (stepped w s) ss id mid new → Writing k w (s ∷ ss) id old new
unfolding events told_acks along
writing_more k w s ss id old mid new one more =
    let e = happens w s in
    record {
      begun = onward (begun_at id k s e) (along (begun_at id) (suc k) (stepped w s) ss) old.begun mid.begun new.begun one.begun more.begun;
      entry = onward (entry_at id k s e) (along (entry_at id) (suc k) (stepped w s) ss) old.entry mid.entry new.entry one.entry more.entry;
      reply = onward (reply_at id k s e) (along (reply_at id) (suc k) (stepped w s) ss) old.reply mid.reply new.reply one.reply more.reply;
      point = onward (point_at id k s e) (along (point_at id) (suc k) (stepped w s) ss) old.point mid.point new.point
          (Notes-writes k (how_often id e.points) old.point mid.point one.point) more.point;
      acked = onward (acked_at id k s e) (along (acked_at id) (suc k) (stepped w s) ss) old.acked mid.acked new.acked
          (Notes-writes k (how_often id e.acked) old.acked mid.acked one.acked) more.acked;
      once = rw (how_often-append id e.acked (told_acks (events (stepped w s) ss)))
          (FitsOnce-then k (how_often id e.acked) (how_often id (told_acks (events (stepped w s) ss))) old.acked mid.acked one.acked more.once);
    }

-- if a step tells what it writes and so do the steps after it, then so do all of them
pub RunTells-more : (w : World) (s : Step) (ss : List Step) → StepTells w s (happens w s) → RunTells (stepped w s) ss → RunTells w (s ∷ ss)
unfolding run events told_points
RunTells-more w s ss one more = record {
  counts = more.counts ∙ ap (λ (n : ℕ). n + length ss) one.counts ∙ omega arith;
  points = more.points ∙ ap (λ (l : List Point). ids_of l ++ told_points (events (stepped w s) ss)) one.points
      ∙ ap (λ (l : List ℕ). l ++ told_points (events (stepped w s) ss)) (ids_of-append w.book.points one.added ∙ ap (λ (l : List ℕ). ids_of w.book.points ++ l) one.told)
      ∙ append_assoc (ids_of w.book.points) (happens w s).points (told_points (events (stepped w s) ss));
  records = λ id. writing_more w.book.steps w s ss id (record_of w.book id) (record_of (stepped w s).book id) (record_of (run (stepped w s) ss).book id)
      (one.records id) (rw one.counts at (more.records id));
  replies = more.replies;
}
