-- A report shows the history of its run.
use Rattle.std.proofs.Common.{ℕ, zero, suc, ◌≡◌, ◌<◌, ◌≤◌, ◌^◌, Bool, true, false, List, [], ◌∷◌, length, map, Option, Some, None, refl, arith, inl, inr, ap, subst, sym, ◌∙◌}
use Rattle.std.specs.Prelude.{All, IfSome, ◌++◌, ◌↔◌, ◌==◌, is_some, slice_get, if◌then◌else◌}
use Rattle.std.proofs.lemmas.Bool.{eq-eqb}
use Rattle.std.specs.List.{flat_map}
use Rattle.std.proofs.lemmas.List.{map-append, append-nil}
use Rattle.std.proofs.lemmas.List.Elements.{All-nil, All-cons, All-head, All-tail, All-weaker}
use Rattle.zeus_base.specs.declared.config.ObjectDecl.{ObjectDecl}
use Rattle.zeus_base.specs.declared.step.Step.{Step}
use Rattle.zeus_base.specs.declared.step.Step.TheVariants.{Begin}
use Rattle.zeus_txn.specs.declared.ops.Op.{Op}
use Rattle.zeus_txn.specs.declared.reply.Reply.{Reply}
use Rattle.zeus_model.specs.declared.script.Script.{Script}
use Rattle.zeus_model.specs.Book.{Book, Point, record_of, reply_or}
use Rattle.zeus_model.specs.In.{In, here, there}
use Rattle.zeus_model.specs.ReportText.{report, event_text, start_of}
use Rattle.zeus_model.specs.Scripts.{FitsScript, FitsStep, FitsValue}
use Rattle.zeus_model.specs.Serial.{start_map}
use Rattle.zeus_model.specs.Sound.{history_txs, replies_of, times}
use Rattle.zeus_model.specs.World.{World, Event, events, start, tx_decl}
use Rattle.zeus_model.specs.InLaws.{In-append_left, In-append_right, In-append}
use Rattle.machine_moves.specs.SystemState.{system}
use Rattle.soundness.specs.History.{IsInOrder}
use Rattle.soundness.specs.Telling.{Does, IsTold, ids_of, told_acks, told_points}
use Rattle.soundness.proofs.Runs.{run-sound, run-config}
use Rattle.soundness.proofs.RunsTold.{run-in_order, run-told, run-replies, run-told_replies}
use Rattle.printed_history.specs.Lines.{lines_with}
use Rattle.printed_history.specs.Printed.{printed_point, printed_ack, printed_history, end_of, FitsPoint, PrintsHistory}
use Rattle.printed_history.proofs.Lines.{Shows, shows-whole}
use Rattle.printed_history.proofs.Pieces.{OneLineName, names-one_line}
use Rattle.printed_history.proofs.Runs.{All-in, FewOps, OneLineRun, fit_txs-few, script-one_line, value-one_line}
use Rattle.printed_history.proofs.Reading.{point-told}
use Rattle.printed_history.proofs.Systems.{OneLineTxs}
use Rattle.printed_history.proofs.Texts.{OneLineEvent, OneLineNodes, OneLinePacket, OneLinePoint, point_now, event-points, event-acks, event-passed, steps-show, final-shows, history-found, history-passed, report-shows}
use Rattle.printed_history.proofs.Values.{IsOneLine, OneLineOp, OneLineReply, FailsBelow, serial_replies-one_line, serial_replies-places, start_map-one_line}

-- ---- the replies of the history

history_txs-one_line : (w : World) (ps : List Point) → OneLineTxs w.txs → All (All OneLineOp) (history_txs w ps)
unfolding history_txs
history_txs-one_line w [] h = All-nil (All OneLineOp)
history_txs-one_line w (p ∷ ps) h = All-cons (All OneLineOp) (tx_decl w p.id).tx (history_txs w ps) (h p.id) (history_txs-one_line w ps h)

history_txs-few : (w : World) (ps : List Point) → FewOps w.txs → All (λ tx. length tx ≤ 16) (history_txs w ps)
unfolding history_txs
history_txs-few w [] h = All-nil (λ (tx : List Op). length tx ≤ 16)
history_txs-few w (p ∷ ps) h = All-cons (λ (tx : List Op). length tx ≤ 16) (tx_decl w p.id).tx (history_txs w ps) (h p.id) (history_txs-few w ps h)

reply-in : (P : Reply → Type 0) (ps : List Point) (p : Point) → All P (replies_of ps) → In p ps → P p.reply
unfolding replies_of
reply-in P [] p h i = elim i [ ]
reply-in P (q ∷ qs) p h (here _ _ e) = rw e (All-head P q.reply (replies_of qs) h)
reply-in P (q ∷ qs) p h (there _ _ i) = reply-in P qs p (All-tail P q.reply (replies_of qs) h) i

-- who stands in the history stands there once or more
times-in : (ps : List Point) (p : Point) → In p ps → 1 ≤ times p.id ps
unfolding times
times-in [] p i = elim i [ ]
times-in (q ∷ qs) p (here _ _ e) = rw (← e, eq-eqb p.id p.id refl) (omega arith)
times-in (q ∷ qs) p (there _ _ i) = once_more (q.id == p.id) (times p.id qs) (times-in qs p i)
  where
    once_more : (t : Bool) (n : ℕ) → 1 ≤ n → 1 ≤ (if t then suc n else n)
    once_more true n h = omega arith
    once_more false n h = h

-- ---- what the events tell

All-slice_get : {A : Type 0} (P : A → Type 0) (xs : List A) → ((k : ℕ) (x : A) → slice_get xs k ≡ Some x → P x) → All P xs
All-slice_get P [] h = All-nil P
All-slice_get P (x ∷ xs) h = All-cons P x xs (h 0 x refl) (All-slice_get P xs (λ k y e. h (suc k) y e))

All-found : {A : Type 0} (P : A → Type 0) (xs : List A) (k : ℕ) (x : A) → All P xs → slice_get xs k ≡ Some x → P x
All-found P [] k x h e = absurd cc
All-found P (y ∷ ys) zero x h e = let same : y ≡ x = cc in subst P same (All-head P y ys h)
All-found P (y ∷ ys) (suc k) x h e = All-found P ys k x (All-tail P y ys h) e

-- the transaction has at the event the reply that it has in the book
abbrev AgreesOn : Book → Event → ℕ → Type 0
AgreesOn b e id = (record_of e.world.book id).reply ≡ (record_of b id).reply

points-same : (b : Book) (e : Event) (ids : List ℕ) → All (AgreesOn b e) ids → map (λ k. printed_point (point_now e.world.book k)) ids ≡ map (λ k. printed_point (point_now b k)) ids
points-same b e [] h = refl
points-same b e (id ∷ ids) h =
    let first : AgreesOn b e id = All-head (AgreesOn b e) id ids h in
    let rest = points-same b e ids (All-tail (AgreesOn b e) id ids h) in
    ap (λ (o : Option Reply). printed_point record { id = id; reply = reply_or o } ∷ map (λ k. printed_point (point_now e.world.book k)) ids) first
    ∙ ap (λ (ls : List (List ℕ)). printed_point (point_now b id) ∷ ls) rest

-- what all events show of their points
points-told : (b : Book) (es : List Event) → All (λ e. All (AgreesOn b e) e.points) es
    → flat_map (λ (e : Event). map (λ k. printed_point (point_now e.world.book k)) e.points) es ≡ map (λ k. printed_point (point_now b k)) (told_points es)
unfolding told_points
points-told b [] h = refl
points-told b (e ∷ es) h =
    let rest = points-told b es (All-tail (λ (f : Event). All (AgreesOn b f) f.points) e es h) in
    let first = points-same b e e.points (All-head (λ (f : Event). All (AgreesOn b f) f.points) e es h) in
    ap (λ (ls : List (List ℕ)). ls ++ flat_map (λ (f : Event). map (λ k. printed_point (point_now f.world.book k)) f.points) es) first
    ∙ ap (λ (ls : List (List ℕ)). map (λ k. printed_point (point_now b k)) e.points ++ ls) rest
    ∙ sym (map-append (λ k. printed_point (point_now b k)) e.points (told_points es))

-- the points of a book, each with the reply of its record
points-booked : (b : Book) (ps : List Point) → ((p : Point) → In p ps → (record_of b p.id).reply ≡ Some p.reply) → map (λ k. printed_point (point_now b k)) (ids_of ps) ≡ map printed_point ps
unfolding ids_of reply_or
points-booked b [] h = refl
points-booked b (p ∷ ps) h =
    ap (λ (o : Option Reply). printed_point record { id = p.id; reply = reply_or o } ∷ map (λ k. printed_point (point_now b k)) (ids_of ps)) (h p (here p ps refl))
    ∙ ap (λ (ls : List (List ℕ)). printed_point p ∷ ls) (points-booked b ps (λ q i. h q (there p ps i)))

acks-told : (es : List Event) → flat_map (λ (e : Event). map printed_ack e.acked) es ≡ map printed_ack (told_acks es)
unfolding told_acks
acks-told [] = refl
acks-told (e ∷ es) = ap (λ (ls : List (List ℕ)). map printed_ack e.acked ++ ls) (acks-told es) ∙ sym (map-append printed_ack e.acked (told_acks es))

nothing-told : (es : List Event) → ◌≡◌ {A = List (List ℕ)} (flat_map (λ (e : Event). []) es) []
nothing-told [] = refl
nothing-told (e ∷ es) = nothing-told es

-- who is acknowledged by a step is told, and who is told is acknowledged by a step
told-in : (id k : ℕ) (e : Event) (es : List Event) → slice_get es k ≡ Some e → In id e.acked → In id (told_acks es)
unfolding told_acks
told-in id k e [] at i = absurd cc
told-in id zero e (f ∷ fs) at i = let same : f ≡ e = cc in In-append_left id f.acked (told_acks fs) (rw same i)
told-in id (suc k) e (f ∷ fs) at i = In-append_right id f.acked (told_acks fs) (told-in id k e fs at i)

told-from : (id : ℕ) (es : List Event) → In id (told_acks es) → (k : ℕ) × (e : Event) × (slice_get es k ≡ Some e) × In id e.acked
unfolding told_acks
told-from id [] i = elim i [ ]
told-from id (f ∷ fs) i = elim (In-append id f.acked (told_acks fs) i) [
  | inl first ↦ (0, f, refl, first)
  | inr later ↦ let more = told-from id fs later in (suc more.0, more.1, more.2, more.3)
]

some_found : {A : Type 0} (o : Option A) → is_some o ≡ true → (a : A) × (o ≡ Some a)
some_found None h = absurd cc
some_found (Some a) h = (a, refl)

below_all : (o : Option ℕ) → IfSome o (λ n. n < 16) → IfSome o (λ n. n < 2 ^ 64)
below_all None h = tt
below_all (Some n) h = omega (arith, h)

-- ---- the report of a script

module _ (s : Script) (fits : FitsScript s) where
  lines : OneLineRun (start_of s) s.steps
  lines = script-one_line s fits

  named : All OneLineName s.names
  named = let names = fits.names in names-one_line s.names names.each

  told : IsTold (start_of s) s.steps
  told = run-told s.config s.txs s.steps fits.config fits.txs fits.steps

  in_order : IsInOrder (end_of s)
  in_order = run-in_order s.config s.txs s.steps fits.config fits.txs fits.steps

  -- the replies of the history are of one line
  replied : (p : Point) → In p (end_of s).book.points → OneLineReply p.reply
  replied p i =
      let sound = run-sound s.config s.txs s.steps fits.config fits.txs fits.steps in
      let same = run-config s.config s.txs s.steps fits.config fits.steps in
      let all = lines in
      let values : All (λ (o : ObjectDecl). IsOneLine o.value) s.config.objects =
      All-weaker (λ (o : ObjectDecl). FitsValue s.config.version o.value) (λ (o : ObjectDecl). IsOneLine o.value) (λ o h. value-one_line s.config.version o.value h) s.config.objects fits.values in
      let map_lines = start_map-one_line (end_of s).config (subst (λ c. All (λ (o : ObjectDecl). IsOneLine o.value) c.objects) (sym same) values) in
      let serial = serial_replies-one_line (start_map (end_of s).config) (history_txs (end_of s) (end_of s).book.points) map_lines (history_txs-one_line (end_of s) (end_of s).book.points all.ops) in
      reply-in OneLineReply (end_of s).book.points p (subst (λ (rs : List Reply). All OneLineReply rs) (sym sound.serial) serial) i

  -- a point of the history is one of the transactions, and its reply that of a script's values
  point_fits : (p : Point) → In p (end_of s).book.points → FitsPoint p
  unfolding FitsStep start
  point_fits p i =
      let sound = run-sound s.config s.txs s.steps fits.config fits.txs fits.steps in
      let fit = fits.txs in
      let all = lines in
      let tells = told in
      let history = sound.one_history in
      let place = history.placed p.id (times-in (end_of s).book.points p i) in
      let begin = place.begun in
      let step = (tells.begun p.id begin.1).0 begin.3 in
      let within : p.id < length s.txs = All-found (FitsStep s.config (length s.txs)) s.steps begin.1 (Begin p.id) fits.steps step.step in
      let few : FewOps (end_of s).txs = subst FewOps (sym all.txs) (fit_txs-few s.config 0 s.txs fit.each) in
      let places = serial_replies-places 16 (start_map (end_of s).config) (history_txs (end_of s) (end_of s).book.points) (history_txs-few (end_of s) (end_of s).book.points few) in
      record {
        id = omega (arith, within, fit.few);
        place = below_all p.reply.failed (reply-in (FailsBelow 16) (end_of s).book.points p (subst (λ (rs : List Reply). All (FailsBelow 16) rs) (sym sound.serial) places) i);
        values = All-weaker IsOneLine (FitsValue 2) (λ v h. h.fits) p.reply.values (replied p i);
      }

  -- the reply at an event that tells a point is that of the history
  reply_at : (k id : ℕ) (e : Event) → Does (start_of s) s.steps k e → In id e.points → (p : Point) × In p (end_of s).book.points × (p.id ≡ id) × ((record_of e.world.book id).reply ≡ Some p.reply)
  reply_at k id e does i = run-told_replies s.config s.txs s.steps fits.config fits.txs fits.steps id k e does i

  agrees : (k id : ℕ) (e : Event) → Does (start_of s) s.steps k e → In id e.points → AgreesOn (end_of s).book e id
  agrees k id e does i =
      let p = reply_at k id e does i in
      let order = in_order in
      let kept : (record_of (end_of s).book id).reply ≡ Some p.0.reply = subst (λ (j : ℕ). (record_of (end_of s).book j).reply ≡ Some p.0.reply) p.2 (order.replies p.0 p.1) in
      p.3 ∙ sym kept

  point_line : (k id : ℕ) (e : Event) → Does (start_of s) s.steps k e → In id e.points → OneLinePoint e.world.book id
  unfolding reply_or
  point_line k id e does i = let p = reply_at k id e does i in subst (λ (o : Option Reply). OneLineReply (reply_or o)) (sym p.3) (replied p.0 p.1)

  event_lines : All OneLineEvent (events (start_of s) s.steps)
  event_lines = All-slice_get OneLineEvent (events (start_of s) s.steps) (λ k e does. record {
    points = All-in (OneLinePoint e.world.book) e.points (λ id i. point_line k id e does i);
    sent = let all = lines in All-found (λ (f : Event). All OneLinePacket f.sent) (events (start_of s) s.steps) k e all.sent does;
  })

  nodes : OneLineNodes (end_of s)
  unfolding system
  nodes = λ n. let all = lines in let last = all.ended in last.nodes n

  points-lines : lines_with 42 (report s) ≡ map printed_point (end_of s).book.points
  points-lines =
      let tells = told in
      let order = in_order in
      let each : (i : ℕ) (step : Step) (e : Event) → OneLineEvent e → Shows 42 (event_text s.names i step e) (map (λ k. printed_point (point_now e.world.book k)) e.points) = λ i step e h. event-points s.names i step e named h in
      let steps = steps-show 42 s.names (λ (e : Event). map (λ k. printed_point (point_now e.world.book k)) e.points) each (start_of s) 0 s.steps event_lines in
      let last = final-shows 42 s.names (end_of s) [] (record { tx = refl; copy = refl; lost = refl; object = refl; finish = refl }) named nodes (history-passed 42 (end_of s).book refl) in
      let whole = report-shows 42 s _ _ refl steps last in
      shows-whole 42 (report s) _ whole ∙ append-nil _
      ∙ points-told (end_of s).book (events (start_of s) s.steps) (All-slice_get (λ (e : Event). All (AgreesOn (end_of s).book e) e.points) (events (start_of s) s.steps) (λ k e does. All-in (AgreesOn (end_of s).book e) e.points (λ id i. agrees k id e does i)))
      ∙ ap (λ (ids : List ℕ). map (λ k. printed_point (point_now (end_of s).book k)) ids) (sym tells.points)
      ∙ points-booked (end_of s).book (end_of s).book.points order.replies

  acks-lines : lines_with 33 (report s) ≡ map printed_ack (told_acks (events (start_of s) s.steps))
  acks-lines =
      let each : (i : ℕ) (step : Step) (e : Event) → OneLineEvent e → Shows 33 (event_text s.names i step e) (map printed_ack e.acked) = λ i step e h. event-acks s.names i step e named h in
      let steps = steps-show 33 s.names (λ (e : Event). map printed_ack e.acked) each (start_of s) 0 s.steps event_lines in
      let last = final-shows 33 s.names (end_of s) [] (record { tx = refl; copy = refl; lost = refl; object = refl; finish = refl }) named nodes (history-passed 33 (end_of s).book refl) in
      let whole = report-shows 33 s _ _ refl steps last in
      shows-whole 33 (report s) _ whole ∙ append-nil _ ∙ acks-told (events (start_of s) s.steps)

  history-lines : lines_with 104 (report s) ≡ printed_history (end_of s).book.points ∷ []
  history-lines =
      let each : (i : ℕ) (step : Step) (e : Event) → OneLineEvent e → Shows 104 (event_text s.names i step e) [] = λ i step e h. event-passed 104 s.names i step e (omega arith) named h in
      let steps = steps-show 104 s.names (λ (e : Event). []) each (start_of s) 0 s.steps event_lines in
      let last = final-shows 104 s.names (end_of s) (printed_history (end_of s).book.points ∷ []) (record { tx = refl; copy = refl; lost = refl; object = refl; finish = refl }) named nodes (history-found (end_of s).book) in
      let whole = report-shows 104 s _ _ refl steps last in
      shows-whole 104 (report s) _ whole ∙ ap (λ (ls : List (List ℕ)). ls ++ printed_history (end_of s).book.points ∷ []) (nothing-told (events (start_of s) s.steps))

  acked-told : (id : ℕ) → (is_some (record_of (end_of s).book id).acked ≡ true) ↔ In id (told_acks (events (start_of s) s.steps))
  acked-told id =
      let tells = told in (
        λ some.
            let at = some_found (record_of (end_of s).book id).acked some in
            let step = (tells.acked id at.0).0 at.1 in
            told-in id at.0 step.0 (events (start_of s) s.steps) step.1 step.2,
        λ i.
            let step = told-from id (events (start_of s) s.steps) i in
            let at = (tells.acked id step.0).1 (step.1, step.2, step.3) in
            ap is_some at,
      )

  -- the report prints the history
  pub report-prints : PrintsHistory s (report s)
  report-prints = let tells = told in record {
    points = points-lines;
    replies = λ p i. run-replies s.config s.txs s.steps fits.config fits.txs fits.steps p i;
    readable = λ p q i other e. point-told q p other (point_fits p i) e;
    acks = acks-lines;
    acked_once = tells.acked_once;
    acked = acked-told;
    history = history-lines;
  }
