-- The book after a run from the start has what the steps tell, and what happens to a transaction happens once.
use Rattle.std.specs.Prelude.{ℕ, zero, suc, ◌≡◌, ◌+◌, ◌≤◌, ◌==◌, true, List, [], ◌∷◌, ◌++◌, length, Option, Some, None, is_some, slice_get}
use Rattle.std.proofs.Common.{arith, refl, ap, sym, ◌∙◌, inl, inr, subst}
use Rattle.std.proofs.lemmas.Bool.{cases_Bool, eqb-true, eq-eqb}
use Rattle.zeus_base.specs.declared.config.Config.{Config}
use Rattle.zeus_base.specs.declared.order.Stream.{Stream}
use Rattle.zeus_base.specs.declared.step.Step.{Step}
use Rattle.zeus_base.specs.declared.step.Step.TheVariants.{Begin, Try}
use Rattle.zeus_txn.specs.declared.reply.Reply.{Reply}
use Rattle.zeus_txn.specs.declared.tx.TxDecl.{TxDecl}
use Rattle.zeus_model.specs.declared.answer.Answer.{Answer}
use Rattle.zeus_model.specs.declared.answer.Answer.TheVariants.{Begin as BeginAnswer, Try as TryAnswer}
use Rattle.zeus_model.specs.declared.answer.Begin.{Begin as BeginOutcome}
use Rattle.zeus_model.specs.declared.answer.Begin.TheVariants.{Begun}
use Rattle.zeus_model.specs.declared.answer.Tried.{Tried}
use Rattle.zeus_model.specs.declared.answer.Tried.TheVariants.{Read, Committed}
use Rattle.zeus_model.specs.In.{In, here, there}
use Rattle.zeus_model.specs.Book.{EntryId, Point, TxRecord, no_record, record_of}
use Rattle.zeus_model.specs.World.{World, Event, events, run, start}
use Rattle.machine_moves.proofs.Lists.{nth-replicate}
use Rattle.soundness.specs.Telling.{Answers, Begins, Commits, Does, IsTold, Replies, Tries, commits, reads, how_often, ids_of, told_points, told_acks}
use Rattle.soundness.proofs.Written.{Written-found, Written-kept, Written-once}
use Rattle.soundness.proofs.BookPasses.{HasReplies}
use Rattle.soundness.proofs.BookAnswers.{said, said_begin, said_tried}
use Rattle.soundness.proofs.Telling.{IsAt, along, along-found, along-there, step_there, begun_at, entry_at, reply_at, point_at, acked_at, at_step, FitsOnce, RunTells, Writing}

-- ---- what an answer says, read backwards

said_begin-begun : (step j : ℕ) (a : BeginOutcome) (id k : ℕ) → (said_begin step j a id).begun ≡ Some k → (j ≡ id) × (a ≡ Begun) × (k ≡ step)
unfolding said_begin
said_begin-begun step j Begun id k h = elim (cases_Bool (j == id)) [
  | inl same ↦
      let is : Some step ≡ Some k = rw same at h in
      (eqb-true j id same, refl, cc)
  | inr other ↦ let is : None ≡ Some k = rw other at h in absurd cc
]
said_begin-begun step j _ id k h = absurd cc

said_tried-begun : (t : Stream) (a : Tried) (id k : ℕ) → (said_tried t a id).begun ≡ Some k → ⊥
unfolding said_tried
said_tried-begun t (Committed i number reply) id k h = elim (cases_Bool (i == id)) [
  | inl same ↦ let is : None ≡ Some k = rw same at h in cc
  | inr other ↦ let is : None ≡ Some k = rw other at h in cc
]
said_tried-begun t (Read i reply) id k h = elim (cases_Bool (i == id)) [
  | inl same ↦ let is : None ≡ Some k = rw same at h in cc
  | inr other ↦ let is : None ≡ Some k = rw other at h in cc
]
said_tried-begun t _ id k h = cc

-- who is begun is begun by this step
pub record IsBegunBy (step : ℕ) (s : Step) (a : Answer) (id k : ℕ) : Type 0 where
  pub begins : s ≡ Begin id
  pub answer : a ≡ BeginAnswer Begun
  pub now : k ≡ step

said-begun : (step : ℕ) (s : Step) (a : Answer) (id k : ℕ) → (said step s a id).begun ≡ Some k → IsBegunBy step s a id k
unfolding said
said-begun step (Begin j) (BeginAnswer a) id k h =
    let is = said_begin-begun step j a id k h in
    record { begins = ap (λ (i : ℕ). Begin i) is.0; answer = ap (λ (o : BeginOutcome). BeginAnswer o) is.1; now = is.2 }
said-begun step (Try n s) (TryAnswer a) id k h = absurd (said_tried-begun record { node = n; slot = s } a id k h)
said-begun step _ _ id k h = absurd cc

-- a try says this entry, and this reply
said_begin-entry : (step j : ℕ) (a : BeginOutcome) (id : ℕ) (e : EntryId) → (said_begin step j a id).entry ≡ Some e → ⊥
unfolding said_begin
said_begin-entry step j Begun id e h = elim (cases_Bool (j == id)) [
  | inl same ↦ let is : None ≡ Some e = rw same at h in cc
  | inr other ↦ let is : None ≡ Some e = rw other at h in cc
]
said_begin-entry step j _ id e h = cc

said_begin-reply : (step j : ℕ) (a : BeginOutcome) (id : ℕ) (r : Reply) → (said_begin step j a id).reply ≡ Some r → ⊥
unfolding said_begin
said_begin-reply step j Begun id r h = elim (cases_Bool (j == id)) [
  | inl same ↦ let is : None ≡ Some r = rw same at h in cc
  | inr other ↦ let is : None ≡ Some r = rw other at h in cc
]
said_begin-reply step j _ id r h = cc

pub record IsCommitted (t : Stream) (a : Tried) (id : ℕ) (e : EntryId) : Type 0 where
  pub reply : Reply
  pub answer : a ≡ Committed id e.number reply
  pub stream : e.stream ≡ t

said_tried-entry : (t : Stream) (a : Tried) (id : ℕ) (e : EntryId) → (said_tried t a id).entry ≡ Some e → IsCommitted t a id e
unfolding said_tried
said_tried-entry t (Committed i number reply) id e h = elim (cases_Bool (i == id)) [
  | inl same ↦
      let is : Some record { stream = t; number = number } ≡ Some e = rw same at h in
      let this : record { stream = t; number = number } ≡ e = cc in
      record { reply = reply; answer = committed_as i id number e.number reply (eqb-true i id same) (ap (λ (k : EntryId). k.number) this); stream = ap (λ (k : EntryId). k.stream) (sym this) }
  | inr other ↦ let is : None ≡ Some e = rw other at h in absurd cc
]
  where
    committed_as : (i j m n : ℕ) (reply : Reply) → i ≡ j → m ≡ n → Committed i m reply ≡ Committed j n reply
    committed_as i j m n reply one two = rw (one, two) refl
said_tried-entry t (Read i reply) id e h = elim (cases_Bool (i == id)) [
  | inl same ↦ let is : None ≡ Some e = rw same at h in absurd cc
  | inr other ↦ let is : None ≡ Some e = rw other at h in absurd cc
]
said_tried-entry t _ id e h = absurd cc

said_tried-reply : (t : Stream) (a : Tried) (id : ℕ) (r : Reply) → (said_tried t a id).reply ≡ Some r → Replies id r a
unfolding said_tried
said_tried-reply t (Committed i number reply) id r h = elim (cases_Bool (i == id)) [
  | inl same ↦
      let is : Some reply ≡ Some r = rw same at h in
      let this : reply ≡ r = cc in
      rw (eqb-true i id same, this) (commits number)
  | inr other ↦ let is : None ≡ Some r = rw other at h in absurd cc
]
said_tried-reply t (Read i reply) id r h = elim (cases_Bool (i == id)) [
  | inl same ↦
      let is : Some reply ≡ Some r = rw same at h in
      let this : reply ≡ r = cc in
      rw (eqb-true i id same, this) reads
  | inr other ↦ let is : None ≡ Some r = rw other at h in absurd cc
]
said_tried-reply t _ id r h = absurd cc

-- a step that says an entry or a reply is a try
pub record IsTryOf (s : Step) (a : Answer) (t : Stream) (o : Tried) : Type 0 where
  pub step : s ≡ Try t.node t.slot
  pub answer : a ≡ TryAnswer o

said-entry : (step : ℕ) (s : Step) (a : Answer) (id : ℕ) (e : EntryId) → (said step s a id).entry ≡ Some e → (reply : Reply) × IsTryOf s a e.stream (Committed id e.number reply)
unfolding said
said-entry step (Begin j) (BeginAnswer a) id e h = absurd (said_begin-entry step j a id e h)
said-entry step (Try n s) (TryAnswer a) id e h =
    let is = said_tried-entry record { node = n; slot = s } a id e h in
    (is.reply, record { step = ap (λ (t : Stream). Try t.node t.slot) (sym is.stream); answer = ap (λ (o : Tried). TryAnswer o) is.answer })
said-entry step _ _ id e h = absurd cc

said-reply : (step : ℕ) (s : Step) (a : Answer) (id : ℕ) (r : Reply) → (said step s a id).reply ≡ Some r → (t : Stream) × (o : Tried) × IsTryOf s a t o × Replies id r o
unfolding said
said-reply step (Begin j) (BeginAnswer a) id r h = absurd (said_begin-reply step j a id r h)
said-reply step (Try n s) (TryAnswer a) id r h =
    (record { node = n; slot = s }, a, record { step = refl; answer = refl }, said_tried-reply record { node = n; slot = s } a id r h)
said-reply step _ _ id r h = absurd cc

-- and forwards
begun-said : (step id : ℕ) (a : Answer) → a ≡ BeginAnswer Begun → (said step (Begin id) a id).begun ≡ Some step
unfolding said said_begin
begun-said step id a is = rw (is, eq-eqb id id refl) refl

committed-said : (step id number : ℕ) (t : Stream) (reply : Reply) (a : Answer) → a ≡ TryAnswer (Committed id number reply)
    → (said step (Try t.node t.slot) a id).entry ≡ Some record { stream = t; number = number }
unfolding said said_tried
committed-said step id number t reply a is = rw (is, eq-eqb id id refl) refl

tried-said : (t : Stream) (id : ℕ) (r : Reply) (o : Tried) → Replies id r o → (said_tried t o id).reply ≡ Some r
unfolding said_tried
tried-said t id r o (commits number) = rw (eq-eqb id id refl) refl
tried-said t id r o reads = rw (eq-eqb id id refl) refl

replied-said : (step id : ℕ) (t : Stream) (r : Reply) (o : Tried) (a : Answer) → a ≡ TryAnswer o → Replies id r o → (said step (Try t.node t.slot) a id).reply ≡ Some r
unfolding said
replied-said step id t r o a is h = rw is (tried-said t id r o h)

-- ---- lists of what is told

In-often : (id : ℕ) (js : List ℕ) → 1 ≤ how_often id js → In id js
unfolding how_often
In-often id [] h = absurd (omega arith)
In-often id (j ∷ js) h = elim (cases_Bool (j == id)) [
  | inl same ↦ here j js (sym (eqb-true j id same))
  | inr other ↦ there j js (In-often id js (rw other at h))
]

often-In : (id : ℕ) (js : List ℕ) → In id js → 1 ≤ how_often id js
unfolding how_often
often-In id [] i = elim i [ ]
often-In id (j ∷ js) (here _ _ e) = rw (eq-eqb j id (sym e)) (omega arith)
often-In id (j ∷ js) (there _ _ i) = elim (cases_Bool (j == id)) [
  | inl same ↦ rw same (omega arith)
  | inr other ↦ rw other (often-In id js i)
]

at_step-some : (step n k : ℕ) → at_step step n ≡ Some k → (k ≡ step) × (1 ≤ n)
unfolding at_step
at_step-some step zero k h = absurd cc
at_step-some step (suc n) k h = (cc, omega arith)

at_step-told : (step n : ℕ) → 1 ≤ n → at_step step n ≡ Some step
unfolding at_step
at_step-told step zero h = absurd (omega arith)
at_step-told step (suc n) h = refl

-- a step that is a try, with what it does
tries_at : (w : World) (steps : List Step) (k : ℕ) (t : Stream) (o : Tried) (s : Step) (e : Event) → IsAt w steps k s e → IsTryOf s e.answer t o → Tries w steps k t o
tries_at w steps k t o s e h tried = record { step = h.step ∙ ap (λ (i : Step). Some i) tried.step; answer = (e, h.event, tried.answer) }

-- ---- a run from the start

-- a world in which nothing has happened yet
pub record IsNew (w : World) : Type 0 where
  pub steps : w.book.steps ≡ 0
  pub points : w.book.points ≡ []
  pub records : (id : ℕ) → record_of w.book id ≡ no_record

module _ (w : World) (steps : List Step) (new : IsNew w) (t : RunTells w steps) where
  after : ℕ → TxRecord
  after id = record_of (run w steps).book id

  writing : (id : ℕ) → Writing 0 w steps id no_record (record_of (run w steps).book id)
  writing id =
      subst (λ (r : TxRecord). Writing 0 w steps id r (record_of (run w steps).book id)) (new.records id)
      (subst (λ (k : ℕ). Writing k w steps id (record_of w.book id) (record_of (run w steps).book id)) new.steps (t.records id))

  -- ---- begun

  begins : (id k : ℕ) → (record_of (run w steps).book id).begun ≡ Some k → Begins w steps k id
  begins id k h =
      let at = writing id in
      let found = Written-found (along (begun_at id) 0 w steps) None (record_of (run w steps).book id).begun k at.begun refl h in
      let there_is = along-found (begun_at id) 0 w steps found.0 (Some k) found.1 in
      let by = said-begun (0 + found.0) there_is.0 there_is.1.answer id k there_is.3 in
      let there_at = there_is.2 in
      let same : found.0 ≡ k = let e = by.now in omega arith in
      subst (λ (i : ℕ). Begins w steps i id) same
      record { step = there_at.step ∙ ap (λ (s : Step). Some s) by.begins; answer = (there_is.1, there_at.event, by.answer) }

  begun : (id k : ℕ) → Begins w steps k id → (record_of (run w steps).book id).begun ≡ Some k
  begun id k b =
      let at = writing id in
      let e = b.answer.0 in
      let there_is = along-there (begun_at id) 0 w steps k (Begin id) e record { step = b.step; event = b.answer.1 } in
      let none : 0 + k ≡ k = omega arith in
      let told : begun_at id (0 + k) (Begin id) e ≡ Some k = begun-said (0 + k) id e.answer b.answer.2 ∙ ap (λ (i : ℕ). Some i) none in
      Written-kept (along (begun_at id) 0 w steps) None (record_of (run w steps).book id).begun k k at.begun (there_is ∙ ap (λ (o : Option ℕ). Some o) told)

  -- ---- points and acknowledgements

  pointed : (id k : ℕ) → (record_of (run w steps).book id).point ≡ Some k → (e : Event) × Does w steps k e × In id e.points
  pointed id k h =
      let at = writing id in
      let found = Written-found (along (point_at id) 0 w steps) None (record_of (run w steps).book id).point k at.point refl h in
      let there_is = along-found (point_at id) 0 w steps found.0 (Some k) found.1 in
      let told = at_step-some (0 + found.0) (how_often id there_is.1.points) k there_is.3 in
      let there_at = there_is.2 in
      let same : found.0 ≡ k = let e = told.0 in omega arith in
      (there_is.1, subst (λ (i : ℕ). Does w steps i there_is.1) same there_at.event, In-often id there_is.1.points told.1)

  point : (id k : ℕ) → ((e : Event) × Does w steps k e × In id e.points) → (record_of (run w steps).book id).point ≡ Some k
  point id k d =
      let at = writing id in
      let step = step_there w steps k d.0 d.1 in
      let there_is = along-there (point_at id) 0 w steps k step.0 d.0 step.1 in
      let none : 0 + k ≡ k = omega arith in
      let told : point_at id (0 + k) step.0 d.0 ≡ Some k = rw none (at_step-told k (how_often id d.0.points) (often-In id d.0.points d.2)) in
      Written-kept (along (point_at id) 0 w steps) None (record_of (run w steps).book id).point k k at.point (there_is ∙ ap (λ (o : Option ℕ). Some o) told)

  acks : (id k : ℕ) → (record_of (run w steps).book id).acked ≡ Some k → (e : Event) × Does w steps k e × In id e.acked
  acks id k h =
      let at = writing id in
      let found = Written-found (along (acked_at id) 0 w steps) None (record_of (run w steps).book id).acked k at.acked refl h in
      let there_is = along-found (acked_at id) 0 w steps found.0 (Some k) found.1 in
      let told = at_step-some (0 + found.0) (how_often id there_is.1.acked) k there_is.3 in
      let there_at = there_is.2 in
      let same : found.0 ≡ k = let e = told.0 in omega arith in
      (there_is.1, subst (λ (i : ℕ). Does w steps i there_is.1) same there_at.event, In-often id there_is.1.acked told.1)

  acked : (id k : ℕ) → ((e : Event) × Does w steps k e × In id e.acked) → (record_of (run w steps).book id).acked ≡ Some k
  acked id k d =
      let at = writing id in
      let step = step_there w steps k d.0 d.1 in
      let there_is = along-there (acked_at id) 0 w steps k step.0 d.0 step.1 in
      let none : 0 + k ≡ k = omega arith in
      let told : acked_at id (0 + k) step.0 d.0 ≡ Some k = rw none (at_step-told k (how_often id d.0.acked) (often-In id d.0.acked d.2)) in
      Written-kept (along (acked_at id) 0 w steps) None (record_of (run w steps).book id).acked k k at.acked (there_is ∙ ap (λ (o : Option ℕ). Some o) told)

  acked_once : (id : ℕ) → how_often id (told_acks (events w steps)) ≤ 1
  unfolding FitsOnce
  acked_once id = let at = writing id in at.once

  -- ---- entries and replies

  entered : (id number : ℕ) (s : Stream) → (record_of (run w steps).book id).entry ≡ Some record { stream = s; number = number } → (k : ℕ) × Commits w steps k s number id
  entered id number s h =
      let at = writing id in
      let x : EntryId = record { stream = s; number = number } in
      let found = Written-found (along (entry_at id) 0 w steps) None (record_of (run w steps).book id).entry x at.entry refl h in
      let there_is = along-found (entry_at id) 0 w steps found.0 (Some x) found.1 in
      let by = said-entry (0 + found.0) there_is.0 there_is.1.answer id x there_is.3 in
      (found.0, (by.0, tries_at w steps found.0 s (Committed id number by.0) there_is.0 there_is.1 there_is.2 by.1))

  committed : (k id number : ℕ) (s : Stream) (reply : Reply) → Tries w steps k s (Committed id number reply)
      → slice_get (along (entry_at id) 0 w steps) k ≡ Some (Some record { stream = s; number = number })
  committed k id number s reply b =
      let e = b.answer.0 in
      let there_is = along-there (entry_at id) 0 w steps k (Try s.node s.slot) e record { step = b.step; event = b.answer.1 } in
      let told : entry_at id (0 + k) (Try s.node s.slot) e ≡ Some record { stream = s; number = number } = committed-said (0 + k) id number s reply e.answer b.answer.2 in
      there_is ∙ ap (λ (o : Option EntryId). Some o) told

  entry : (id number : ℕ) (s : Stream) → ((k : ℕ) × Commits w steps k s number id) → (record_of (run w steps).book id).entry ≡ Some record { stream = s; number = number }
  entry id number s h =
      let at = writing id in
      Written-kept (along (entry_at id) 0 w steps) None (record_of (run w steps).book id).entry record { stream = s; number = number } h.0 at.entry (committed h.0 id number s h.1.0 h.1.1)

  replied : (id : ℕ) (r : Reply) → (record_of (run w steps).book id).reply ≡ Some r → (k : ℕ) × Answers w steps k id r
  replied id r h =
      let at = writing id in
      let found = Written-found (along (reply_at id) 0 w steps) None (record_of (run w steps).book id).reply r at.reply refl h in
      let there_is = along-found (reply_at id) 0 w steps found.0 (Some r) found.1 in
      let by = said-reply (0 + found.0) there_is.0 there_is.1.answer id r there_is.3 in
      (found.0, (by.0, by.1, tries_at w steps found.0 by.0 by.1 there_is.0 there_is.1 there_is.2 by.2, by.3))

  answered : (k id : ℕ) (r : Reply) → Answers w steps k id r → slice_get (along (reply_at id) 0 w steps) k ≡ Some (Some r)
  answered k id r h =
      let b = h.2 in
      let e = b.answer.0 in
      let there_is = along-there (reply_at id) 0 w steps k (Try h.0.node h.0.slot) e record { step = b.step; event = b.answer.1 } in
      let told : reply_at id (0 + k) (Try h.0.node h.0.slot) e ≡ Some r = replied-said (0 + k) id h.0 r h.1 e.answer b.answer.2 h.3 in
      there_is ∙ ap (λ (o : Option Reply). Some o) told

  reply : (id : ℕ) (r : Reply) → ((k : ℕ) × Answers w steps k id r) → (record_of (run w steps).book id).reply ≡ Some r
  reply id r h =
      let at = writing id in
      Written-kept (along (reply_at id) 0 w steps) None (record_of (run w steps).book id).reply r h.0 at.reply (answered h.0 id r h.1)

  -- ---- all of it

  pub is_told : IsTold w steps
  unfolding ids_of
  is_told = record {
    counted = t.counts ∙ ap (λ (n : ℕ). n + length steps) new.steps ∙ omega arith;
    begun = λ id k. (begins id k, begun id k);
    points = t.points ∙ ap (λ (ps : List Point). ids_of ps ++ told_points (events w steps)) new.points;
    point = λ id k. (pointed id k, point id k);
    acked = λ id k. (acks id k, acked id k);
    acked_once = acked_once;
    entry = λ id number s. (entered id number s, entry id number s);
    reply = λ id r. (replied id r, reply id r);
  }

  pub answered_once : (id k l : ℕ) (p q : Reply) → Answers w steps k id p → Answers w steps l id q → k ≡ l
  answered_once id k l p q one other =
      let at = writing id in
      Written-once (along (reply_at id) 0 w steps) None (record_of (run w steps).book id).reply p q k l at.reply (answered k id p one) (answered l id q other)

-- ---- the start

-- at the start nothing has happened yet
pub start-new : (c : Config) (txs : List TxDecl) → IsNew (start c txs)
unfolding start
start-new c txs = record { steps = refl; points = refl; records = λ id. elim (nth-replicate no_record no_record (length txs) id) [ inl is ↦ is | inr is ↦ is ] }

no_reply_there : (r : TxRecord) → r ≡ no_record → (is_some r.reply ≡ true → ⊥) × (is_some r.entry ≡ true → ⊥)
no_reply_there r is = rw is (λ none. cc, λ none. cc)

-- if nothing has happened yet, then the book has the replies of its history
pub new-replies : (w : World) → IsNew w → HasReplies w.book
new-replies w new = record {
  points = λ p i. let none : In p [] = subst (λ (ps : List Point). In p ps) new.points i in elim none [ ];
  entries = λ id some. absurd ((no_reply_there (record_of w.book id) (new.records id)).1 some);
  ended = λ id some. absurd ((no_reply_there (record_of w.book id) (new.records id)).0 some);
}
