-- The events of the lines of a sound report are a serial history.
use Rattle.std.proofs.Common.{◌≡◌, ◌≢◌, ℕ, suc, ◌<◌, ◌⊎◌, inl, inr, Bool, true, false, cond, List, [], ◌∷◌, ◌++◌, length, append_assoc, refl, sym, ap, ◌∙◌, arith}
use Rattle.std.specs.Prelude.{◌&&◌, ◌||◌, ◌==◌, nat_le, All, Ok, Err, Result}
use Rattle.std.proofs.lemmas.Bool.{cases_eq, eqb-true, eq-eqb, ne_eqb, leb-true}
use Rattle.std.proofs.lemmas.List.{append-nil}
use Rattle.std.proofs.lemmas.List.Elements.{All-nil, All-cons}
use Rattle.zeus_base.specs.Tables.{nth, put}
use Rattle.zeus_base.specs.TableLaws.{nth-put_same, nth-put_other}
use Rattle.zeus_base.specs.Values.{same_value}
use Rattle.zeus_base.specs.ValueLaws.{same_value-true}
use Rattle.zeus_txn.specs.declared.map.Versioned.{Versioned}
use Rattle.zeus_txn.specs.declared.reply.Reply.{Reply}
use Rattle.zeus_model.specs.Scripts.{FitsScript}
use Rattle.zeus_model.specs.Serial.{content, serial_map, serial_replies}
use Rattle.zeus_model.specs.declared.answer.TxState.TheVariants as tx_states
use Rattle.zeus_model.specs.declared.script.Script.{Script}
use Rattle.zeus_model.specs.declared.state.Copy.{Copy}
use Rattle.zeus_audit.specs.Auditing.{Failing, is_end, ended, line_done, lines_taken}
use Rattle.zeus_audit.specs.declared.stage.Mark.{Mark}
use Rattle.zeus_audit.specs.declared.stage.Mark.TheVariants as marks
use Rattle.zeus_audit.specs.declared.stage.Stage.{Stage}
use Rattle.zeus_audit.specs.declared.stage.Stage.TheVariants as stages
use Rattle.zeus_audit.specs.declared.verdict.Rule.{Rule}
use Rattle.zeus_audit.specs.Fitting.{Fits}
use Rattle.zeus_audit.specs.Events.{Event, Quiet, Begun, Point, Acked, History, Stands, Copied, SayAll, points_of, replies_of}
use Rattle.zeus_audit.specs.Progress.{State, mark_of}
use Rattle.zeus_audit.specs.Rules.{if_new, begun_marks, fits_mark, is_valid, is_current, line_taken}
use Rattle.zeus_audit.specs.Serial.{Among, HasPoint, MayCome, InOrder, history_of, IsCurrent}
use Rattle.zeus_audit.proofs.Fits.{marked_within, fits_kept}
use Rattle.zeus_audit.proofs.Tells.{Tells, Allows, Comes, is_closed, marks_after, points_after, map_after, line-tells}

-- ---- what a mark says of the events so far

-- what a transaction's mark says of the events so far: its begin, its point and its acknowledgement
unfoldable pub Shows : Mark → ℕ → List Event → Type 0
Shows marks.New k es = (¬ HasPoint es k) × (¬ Among es (Acked k))
Shows marks.Begun k es = Among es (Begun k) × (¬ HasPoint es k) × (¬ Among es (Acked k))
Shows marks.Passed k es = HasPoint es k × (¬ Among es (Acked k))
Shows marks.Acked k es = HasPoint es k × Among es (Acked k)

-- each mark says so
abbrev pub ShowAll : List Mark → List Event → Type 0
ShowAll ms es = (k : ℕ) → Shows (nth marks.New ms k) k es

closed_open : {b : Bool} → b ≡ true → b ≡ false → ⊥
closed_open t f = cc

-- an event with no point, begin or acknowledgement of a transaction says nothing of its mark
abbrev Apart : Event → ℕ → Type 0
Apart e k = (e ≢ Begun k) × ((reply : Reply) → e ≢ Point k reply) × (e ≢ Acked k)

among_later : (e x : Event) (es : List Event) → Among es x → Among (e ∷ es) x
unfolding Among
among_later e x es h = inr h

among_earlier : (e x : Event) (es : List Event) → e ≢ x → Among (e ∷ es) x → Among es x
unfolding Among
among_earlier e x es other h = elim h [ inl same ↦ absurd (other same) | inr later ↦ later ]

point_later : (e : Event) (k : ℕ) (es : List Event) → HasPoint es k → HasPoint (e ∷ es) k
unfolding HasPoint
point_later e k es h = (h.0, among_later e (Point k h.0) es h.1)

point_earlier : (e : Event) (k : ℕ) (es : List Event) → ((reply : Reply) → e ≢ Point k reply) → HasPoint (e ∷ es) k → HasPoint es k
unfolding HasPoint
point_earlier e k es other h = (h.0, among_earlier e (Point k h.0) es (other h.0) h.1)

shows_apart : (m : Mark) (e : Event) (k : ℕ) (es : List Event) → Apart e k → Shows m k es → Shows m k (e ∷ es)
unfolding Shows
shows_apart marks.New e k es a h = (λ p. h.0 (point_earlier e k es a.1 p), λ x. h.1 (among_earlier e (Acked k) es a.2 x))
shows_apart marks.Begun e k es a h = (among_later e (Begun k) es h.0, λ p. h.1 (point_earlier e k es a.1 p), λ x. h.2 (among_earlier e (Acked k) es a.2 x))
shows_apart marks.Passed e k es a h = (point_later e k es h.0, λ x. h.1 (among_earlier e (Acked k) es a.2 x))
shows_apart marks.Acked e k es a h = (point_later e k es h.0, among_later e (Acked k) es h.1)

abbrev begun_mark : Mark → Mark
begun_mark marks.New = marks.Begun
begun_mark marks.Begun = marks.Begun
begun_mark marks.Passed = marks.Passed
begun_mark marks.Acked = marks.Acked

nth-begun_same : (ms : List Mark) (k : ℕ) → nth marks.New (begun_marks ms k) k ≡ begun_mark (nth marks.New ms k)
unfolding begun_marks if_new
nth-begun_same ms k = go (nth marks.New ms k) refl
  where
    go : (m : Mark) → nth marks.New ms k ≡ m → nth marks.New (if_new m (put marks.New ms k marks.Begun) ms) k ≡ begun_mark m
    go marks.New is = nth-put_same marks.New ms k marks.Begun
    go marks.Begun is = is
    go marks.Passed is = is
    go marks.Acked is = is

nth-begun_other : (ms : List Mark) (k j : ℕ) → k ≢ j → nth marks.New (begun_marks ms k) j ≡ nth marks.New ms j
unfolding begun_marks if_new
nth-begun_other ms k j other = go (nth marks.New ms k)
  where
    go : (m : Mark) → nth marks.New (if_new m (put marks.New ms k marks.Begun) ms) j ≡ nth marks.New ms j
    go marks.New = nth-put_other marks.New ms k j marks.Begun other
    go marks.Begun = refl
    go marks.Passed = refl
    go marks.Acked = refl

-- a begin makes a new mark a begun one
shows_begun : (m : Mark) (k : ℕ) (es : List Event) → Shows m k es → Shows (begun_mark m) k (Begun k ∷ es)
unfolding Shows Among
shows_begun marks.New k es h = (inl refl, λ p. h.0 (point_earlier (Begun k) k es (λ r e. cc) p), λ x. h.1 (among_earlier (Begun k) (Acked k) es (λ e. cc) x))
shows_begun marks.Begun k es h = (inl refl, λ p. h.1 (point_earlier (Begun k) k es (λ r e. cc) p), λ x. h.2 (among_earlier (Begun k) (Acked k) es (λ e. cc) x))
shows_begun marks.Passed k es h = (point_later (Begun k) k es h.0, λ x. h.1 (among_earlier (Begun k) (Acked k) es (λ e. cc) x))
shows_begun marks.Acked k es h = (point_later (Begun k) k es h.0, among_later (Begun k) (Acked k) es h.1)

-- a point makes a begun mark a passed one
shows_point : (k : ℕ) (reply : Reply) (es : List Event) → Shows marks.Begun k es → Shows marks.Passed k (Point k reply ∷ es)
unfolding Shows HasPoint Among
shows_point k reply es h = ((reply, inl refl), λ x. h.2 (among_earlier (Point k reply) (Acked k) es (λ e. cc) x))

-- an acknowledgement makes a passed mark an acknowledged one
shows_acked : (k : ℕ) (es : List Event) → Shows marks.Passed k es → Shows marks.Acked k (Acked k ∷ es)
unfolding Shows Among
shows_acked k es h = (point_later (Acked k) k es h.0, inl refl)

show_after : (s : Script) (st : State) (e : Event) (es : List Event) → Allows s st e → ShowAll st.marks es → ShowAll (marks_after st.marks e) (e ∷ es)
unfolding marks_after Allows
show_after s st Quiet es a h k = shows_apart (mark_of st k) Quiet k es ((λ e. cc), (λ r e. cc), (λ e. cc)) (h k)
show_after s st (History ks) es a h k = shows_apart (mark_of st k) (History ks) k es ((λ e. cc), (λ r e. cc), (λ e. cc)) (h k)
show_after s st (Stands j t) es a h k = shows_apart (mark_of st k) (Stands j t) k es ((λ e. cc), (λ r e. cc), (λ e. cc)) (h k)
show_after s st (Copied x n c) es a h k = shows_apart (mark_of st k) (Copied x n c) k es ((λ e. cc), (λ r e. cc), (λ e. cc)) (h k)
show_after s st (Begun j) es a h k =
    elim (cases_eq j k) [
      | inl same ↦ rw (← same, nth-begun_same st.marks j) (shows_begun (mark_of st j) j es (h j))
      | inr other ↦ rw (nth-begun_other st.marks j k other) (shows_apart (mark_of st k) (Begun j) k es ((λ e. other cc), (λ r e. cc), (λ e. cc)) (h k))
    ]
show_after s st (Point j reply) es a h k =
    elim (cases_eq j k) [
      | inl same ↦ rw (← same, nth-put_same marks.New st.marks j marks.Passed) (shows_point j reply es (rw a.0 at (h j)))
      | inr other ↦ rw (nth-put_other marks.New st.marks j k marks.Passed other) (shows_apart (mark_of st k) (Point j reply) k es ((λ e. cc), (λ r e. other cc), (λ e. cc)) (h k))
    ]
show_after s st (Acked j) es a h k =
    elim (cases_eq j k) [
      | inl same ↦ rw (← same, nth-put_same marks.New st.marks j marks.Acked) (shows_acked j es (rw a at (h j)))
      | inr other ↦ rw (nth-put_other marks.New st.marks j k marks.Acked other) (shows_apart (mark_of st k) (Acked j) k es ((λ e. cc), (λ r e. cc), (λ e. other cc)) (h k))
    ]

-- an event that is allowed may come behind those before it
may_come : (s : Script) (st : State) (e : Event) (es : List Event) → Allows s st e → ShowAll st.marks es → MayCome es e
unfolding MayCome Allows Shows
may_come s st Quiet es a h = tt
may_come s st (Begun k) es a h = tt
may_come s st (History ks) es a h = tt
may_come s st (Stands k t) es a h = tt
may_come s st (Copied x n c) es a h = tt
may_come s st (Point k reply) es a h = let shown = rw a.0 at (h k) in (shown.0, shown.1)
may_come s st (Acked k) es a h = let shown = rw a at (h k) in (shown.0, shown.1)

-- ---- what the states and the copies say

acked_mark : (m : Mark) → fits_mark m tx_states.Acked ≡ true → m ≡ marks.Acked
unfolding fits_mark
acked_mark marks.New h = absurd cc
acked_mark marks.Begun h = absurd cc
acked_mark marks.Passed h = absurd cc
acked_mark marks.Acked h = refl

passed_mark : (m : Mark) → fits_mark m tx_states.Passed ≡ true → m ≡ marks.Passed
unfolding fits_mark
passed_mark marks.New h = absurd cc
passed_mark marks.Begun h = absurd cc
passed_mark marks.Passed h = refl
passed_mark marks.Acked h = absurd cc

current_parts : (v q w e : Bool) → cond (v || q) (q && w) e ≡ true → (q ≡ false → e ≡ true) × (v ≡ true → (q ≡ true) × (w ≡ true)) × (q ≡ true → w ≡ true)
current_parts true true true e h = (λ f. absurd cc, λ _. (refl, refl), λ _. refl)
current_parts true true false e h = absurd cc
current_parts true false w e h = absurd cc
current_parts false true true e h = (λ f. absurd cc, λ _. (refl, refl), λ _. refl)
current_parts false true false e h = absurd cc
current_parts false false w e h = (λ _. h, λ f. absurd cc, λ f. absurd cc)

is_current-current : (c : Copy) (left : Versioned) → is_current c left ≡ true → IsCurrent c left
unfolding is_current is_valid
is_current-current c left h =
    let parts = current_parts (is_valid c.state) (c.ver == left.ver) (same_value c.value left.value) (nat_le left.ver c.ver) h in
    record {
      newer =
          elim (cases_eq c.ver left.ver) [
            | inl same ↦ omega arith
            | inr other ↦ leb-true left.ver c.ver (parts.0 (ne_eqb c.ver left.ver other))
          ];
      valid = λ is.
          let both = parts.1 (ap is_valid is) in
          (eqb-true c.ver left.ver both.0, same_value-true c.value left.value both.1);
      same = λ is. same_value-true c.value left.value (parts.2 (eq-eqb c.ver left.ver is));
    }

-- ---- the lines behind each other

turn : (b a : Bool) (e : Event) → Comes b a e → b ≡ false → a ≡ true → (ks : List ℕ) × (e ≡ History ks)
unfolding Comes
turn b a Quiet c before after = absurd cc
turn b a (Begun k) c before after = let x = c.1 in absurd cc
turn b a (Point k r) c before after = let x = c.1 in absurd cc
turn b a (Acked k) c before after = let x = c.1 in absurd cc
turn b a (History ks) c before after = (ks, refl)
turn b a (Stands k t) c before after = let x = c.0 in absurd cc
turn b a (Copied x n k) c before after = let y = c.0 in absurd cc

-- behind the history no event changes the points
record Stays (s : Script) (a : Bool) (e : Event) : Type 0 where
  closed : a ≡ true
  points : (ks : List ℕ) → points_after ks e ≡ ks
  map : (m : List Versioned) → map_after s m e ≡ m

stays : (s : Script) (b a : Bool) (e : Event) → Comes b a e → b ≡ true → Stays s a e
unfolding Comes points_after map_after
stays s b a Quiet c is = record { closed = sym c ∙ is; points = λ ks. refl; map = λ m. refl }
stays s b a (Begun k) c is = let x = c.0 in absurd cc
stays s b a (Point k r) c is = let x = c.0 in absurd cc
stays s b a (Acked k) c is = let x = c.0 in absurd cc
stays s b a (History ks) c is = let x = c.0 in absurd cc
stays s b a (Stands k t) c is = record { closed = c.1; points = λ ks. refl; map = λ m. refl }
stays s b a (Copied x n k) c is = record { closed = c.1; points = λ ks. refl; map = λ m. refl }

points_next : (ks : List ℕ) (e : Event) (es : List Event) → points_after ks e ++ points_of es ≡ ks ++ points_of (e ∷ es)
unfolding points_after points_of
points_next ks Quiet es = refl
points_next ks (Begun k) es = refl
points_next ks (Point k r) es = append_assoc ks (k ∷ []) (points_of es)
points_next ks (Acked k) es = refl
points_next ks (History js) es = refl
points_next ks (Stands k t) es = refl
points_next ks (Copied x n c) es = refl

map_next : (s : Script) (m : List Versioned) (e : Event) (es : List Event) → serial_map (map_after s m e) (history_of s es) ≡ serial_map m (history_of s (e ∷ es))
unfolding map_after points_of serial_map
map_next s m Quiet es = refl
map_next s m (Begun k) es = refl
map_next s m (Point k r) es = refl
map_next s m (Acked k) es = refl
map_next s m (History js) es = refl
map_next s m (Stands k t) es = refl
map_next s m (Copied x n c) es = refl

replies_next : (s : Script) (st : State) (e : Event) (es : List Event) → Allows s st e → replies_of es ≡ serial_replies (map_after s st.map e) (history_of s es) → replies_of (e ∷ es) ≡ serial_replies st.map (history_of s (e ∷ es))
unfolding map_after points_of replies_of serial_replies Allows
replies_next s st Quiet es a h = h
replies_next s st (Begun k) es a h = h
replies_next s st (Point k r) es a h = cc (a.1, h)
replies_next s st (Acked k) es a h = h
replies_next s st (History js) es a h = h
replies_next s st (Stands k t) es a h = h
replies_next s st (Copied x n c) es a h = h

known_next : (s : Script) (st : State) (e : Event) (es : List Event) → length st.marks ≡ length s.txs → Allows s st e → All (λ k. k < length s.txs) (points_of es) → All (λ k. k < length s.txs) (points_of (e ∷ es))
unfolding points_of Allows
known_next s st Quiet es size a h = h
known_next s st (Begun k) es size a h = h
known_next s st (Point k r) es size a h =
    let begun = a.0 in
    let within : k < length st.marks = marked_within st.marks k (λ e. cc) in
    All-cons (λ k. k < length s.txs) k (points_of es) (omega arith) h
known_next s st (Acked k) es size a h = h
known_next s st (History js) es size a h = h
known_next s st (Stands k t) es size a h = h
known_next s st (Copied x n c) es size a h = h

-- what the lines from one on say, behind the events before them
pub record Tale (s : Script) (st : State) (before : List Event) (parts : List (List ℕ)) (last : State) : Type 0 where
  pub lines : List (List ℕ)
  pub events : List Event
  pub ended : parts ≡ lines ++ [] ∷ []
  pub says : SayAll s lines events
  pub known : All (λ k. k < length s.txs) (points_of events)
  pub order : InOrder before events
  pub points : last.points ≡ st.points ++ points_of events
  pub map : last.map ≡ serial_map st.map (history_of s events)
  pub replies : replies_of events ≡ serial_replies st.map (history_of s events)
  pub history : (ks : List ℕ) → Among events (History ks) → ks ≡ last.points
  pub printed : is_closed st.stage ≡ false → Among events (History last.points)
  pub acked : (k : ℕ) → Among events (Stands k tx_states.Acked) → Among before (Acked k) ⊎ Among events (Acked k)
  pub passed : (k : ℕ) → Among events (Stands k tx_states.Passed) → HasPoint before k ⊎ HasPoint events k
  pub copies : (x n : ℕ) (c : Copy) → Among events (Copied x n c) → IsCurrent c (content last.map x)
  pub steady : is_closed st.stage ≡ true → (last.points ≡ st.points) × (last.map ≡ st.map)

end_parts : (stage : Stage) (p : List ℕ) → is_end stage p ≡ true → (p ≡ []) × (is_closed stage ≡ true)
unfolding is_end is_closed
end_parts stages.Ended [] h = (refl, refl)
end_parts stages.Ended (b ∷ bs) h = absurd cc
end_parts stages.Head p h = absurd cc
end_parts (stages.Steps n f) p h = absurd cc
end_parts (stages.States k) p h = absurd cc
end_parts (stages.Objects x) p h = absurd cc
end_parts (stages.Holders x r) p h = absurd cc
end_parts (stages.Copies x r n) p h = absurd cc

ended_parts : (st : State) (n : ℕ) (b : Bool) (last : State) → ended st n b ≡ Ok last → (b ≡ true) × (st ≡ last)
unfolding ended
ended_parts st n true last is = (refl, cc)
ended_parts st n false last is = absurd cc

-- behind the line `end` nothing is said
tale_end : (s : Script) (st : State) (n : ℕ) (before : List Event) (p : List ℕ) (last : State) → ended st n (is_end st.stage p) ≡ Ok last → Tale s st before (p ∷ []) last
unfolding SayAll InOrder points_of replies_of serial_map serial_replies Among
tale_end s st n before p last is =
    let parts = ended_parts st n (is_end st.stage p) last is in
    let here = end_parts st.stage p parts.0 in
    let points : last.points ≡ st.points = ap (λ (t : State). t.points) (sym parts.1) in
    let map : last.map ≡ st.map = ap (λ (t : State). t.map) (sym parts.1) in
    record {
      lines = [];
      events = [];
      ended = ap (λ (l : List ℕ). l ∷ []) here.0;
      says = tt;
      known = All-nil _;
      order = tt;
      points = points ∙ sym (append-nil st.points);
      map = map;
      replies = refl;
      history = λ ks x. absurd x;
      printed = λ open_. absurd (closed_open here.1 open_);
      acked = λ k x. absurd x;
      passed = λ k x. absurd x;
      copies = λ x n c y. absurd y;
      steady = λ _. (points, map);
    }

steady_here : (s : Script) (st : State) (p : List ℕ) (after : State) (before : List Event) (parts : List (List ℕ)) (last : State) (t : Tells s st p after) → Tale s after (t.event ∷ before) parts last → is_closed st.stage ≡ true → (last.points ≡ st.points) × (last.map ≡ st.map)
steady_here s st p after before parts last t rest closed =
    let stay = stays s (is_closed st.stage) (is_closed after.stage) t.event t.comes closed in
    let same = rest.steady stay.closed in
    (same.0 ∙ (t.points ∙ stay.points st.points), same.1 ∙ (t.map ∙ stay.map st.map))

-- the points that a line lists are all
listed_all : (s : Script) (st : State) (p : List ℕ) (after : State) (before : List Event) (parts : List (List ℕ)) (last : State) (t : Tells s st p after) → Tale s after (t.event ∷ before) parts last → (ks : List ℕ) → t.event ≡ History ks → ks ≡ last.points
unfolding Allows Comes points_after
listed_all s st p after before parts last t rest ks is =
    let listed : ks ≡ st.points = rw is at t.allowed in
    let comes : (is_closed st.stage ≡ false) × (is_closed after.stage ≡ true) = rw is at t.comes in
    let kept : after.points ≡ st.points = rw is at t.points in
    listed ∙ (sym kept ∙ sym (rest.steady comes.1).0)

history_here : (s : Script) (st : State) (p : List ℕ) (after : State) (before : List Event) (parts : List (List ℕ)) (last : State) (t : Tells s st p after) (rest : Tale s after (t.event ∷ before) parts last) → (ks : List ℕ) → Among (t.event ∷ rest.events) (History ks) → ks ≡ last.points
unfolding Among
history_here s st p after before parts last t rest ks x =
    elim x [
      | inl same ↦ listed_all s st p after before parts last t rest ks same
      | inr later ↦ rest.history ks later
    ]

printed_here : (s : Script) (st : State) (p : List ℕ) (after : State) (before : List Event) (parts : List (List ℕ)) (last : State) (t : Tells s st p after) (rest : Tale s after (t.event ∷ before) parts last) → is_closed st.stage ≡ false → Among (t.event ∷ rest.events) (History last.points)
unfolding Among
printed_here s st p after before parts last t rest open_ = go (is_closed after.stage) refl
  where
    go : (b : Bool) → is_closed after.stage ≡ b → (t.event ≡ History last.points) ⊎ Among rest.events (History last.points)
    go true is =
        let told = turn (is_closed st.stage) (is_closed after.stage) t.event t.comes open_ is in
        inl (told.1 ∙ ap (λ ks. History ks) (listed_all s st p after before parts last t rest told.0 told.1))
    go false is = inr (rest.printed is)

acked_here : (s : Script) (st : State) (p : List ℕ) (after : State) (before : List Event) (parts : List (List ℕ)) (last : State) → ShowAll st.marks before → (t : Tells s st p after) (rest : Tale s after (t.event ∷ before) parts last) → (k : ℕ) → Among (t.event ∷ rest.events) (Stands k tx_states.Acked) → Among before (Acked k) ⊎ Among (t.event ∷ rest.events) (Acked k)
unfolding Among Allows Shows
acked_here s st p after before parts last shown t rest k x =
    elim x [
      | inl same ↦
          let fits : fits_mark (mark_of st k) tx_states.Acked ≡ true = rw same at t.allowed in
          let shows = rw (acked_mark (mark_of st k) fits) at (shown k) in
          inl shows.1
      | inr later ↦
          elim (rest.acked k later) [
            | inl here ↦ elim here [ inl same ↦ inr (inl same) | inr y ↦ inl y ]
            | inr y ↦ inr (inr y)
          ]
    ]

passed_here : (s : Script) (st : State) (p : List ℕ) (after : State) (before : List Event) (parts : List (List ℕ)) (last : State) → ShowAll st.marks before → (t : Tells s st p after) (rest : Tale s after (t.event ∷ before) parts last) → (k : ℕ) → Among (t.event ∷ rest.events) (Stands k tx_states.Passed) → HasPoint before k ⊎ HasPoint (t.event ∷ rest.events) k
unfolding Among Allows Shows HasPoint
passed_here s st p after before parts last shown t rest k x =
    elim x [
      | inl same ↦
          let fits : fits_mark (mark_of st k) tx_states.Passed ≡ true = rw same at t.allowed in
          let shows = rw (passed_mark (mark_of st k) fits) at (shown k) in
          inl shows.0
      | inr later ↦
          elim (rest.passed k later) [
            | inl here ↦ elim here.1 [ inl same ↦ inr (here.0, inl same) | inr y ↦ inl (here.0, y) ]
            | inr y ↦ inr (y.0, inr y.1)
          ]
    ]

copies_here : (s : Script) (st : State) (p : List ℕ) (after : State) (before : List Event) (parts : List (List ℕ)) (last : State) (t : Tells s st p after) (rest : Tale s after (t.event ∷ before) parts last) → (x n : ℕ) (c : Copy) → Among (t.event ∷ rest.events) (Copied x n c) → IsCurrent c (content last.map x)
unfolding Among Allows Comes
copies_here s st p after before parts last t rest x n c y =
    elim y [
      | inl same ↦
          let current : is_current c (content st.map x) ≡ true = rw same at t.allowed in
          let comes : (is_closed st.stage ≡ true) × (is_closed after.stage ≡ true) = rw same at t.comes in
          let kept = (steady_here s st p after before parts last t rest comes.0).1 in
          rw kept (is_current-current c (content st.map x) current)
      | inr later ↦ rest.copies x n c later
    ]

-- a line before the lines whose events are known
tale_next : (s : Script) (st : State) (p : List ℕ) (after : State) (before : List Event) (parts : List (List ℕ)) (last : State) → length st.marks ≡ length s.txs → ShowAll st.marks before → (t : Tells s st p after)
    → Tale s after (t.event ∷ before) parts last → Tale s st before (p ∷ parts) last
unfolding SayAll InOrder
tale_next s st p after before parts last size shown t rest =
    let e = t.event in
    let es = rest.events in
    record {
      lines = p ∷ rest.lines;
      events = e ∷ es;
      ended = ap (λ (l : List (List ℕ)). p ∷ l) rest.ended;
      says = (t.says, rest.says);
      known = known_next s st e es size t.allowed rest.known;
      order = (may_come s st e before t.allowed shown, rest.order);
      points = rest.points ∙ (ap (λ ks. ks ++ points_of es) t.points ∙ points_next st.points e es);
      map = rest.map ∙ (ap (λ m. serial_map m (history_of s es)) t.map ∙ map_next s st.map e es);
      replies = replies_next s st e es t.allowed (rw t.map at rest.replies);
      history = λ ks x. history_here s st p after before parts last t rest ks x;
      printed = λ open_. printed_here s st p after before parts last t rest open_;
      acked = λ k x. acked_here s st p after before parts last shown t rest k x;
      passed = λ k x. passed_here s st p after before parts last shown t rest k x;
      copies = λ x n c y. copies_here s st p after before parts last t rest x n c y;
      steady = λ closed. steady_here s st p after before parts last t rest closed;
    }

done_cases : {T : Type 0} (r : Result State Rule) (n : ℕ) (go_on : State → Result State Failing) (last : State) → line_done r n go_on ≡ Ok last → ((after : State) → r ≡ Ok after → go_on after ≡ Ok last → T) → T
unfolding line_done
done_cases (Ok after) n go_on last is k = k after refl is
done_cases (Err rule) n go_on last is k = absurd cc

show_moved : (ms ms' : List Mark) (es : List Event) → ms' ≡ ms → ShowAll ms es → ShowAll ms' es
show_moved ms ms' es e h k = rw e (h k)

-- what the lines of a sound report say
pub telling : (s : Script) → FitsScript s → (parts : List (List ℕ)) (st : State) (n : ℕ) (before : List Event) (last : State) → Fits s st → ShowAll st.marks before → lines_taken s st n parts ≡ Ok last → Tale s st before parts last
unfolding lines_taken
telling s fits [] st n before last f shown is = absurd (closed_open (ended_parts st n false last is).0 refl)
telling s fits (p ∷ []) st n before last f shown is = tale_end s st n before p last is
telling s fits (p ∷ q ∷ ps) st n before last f shown is =
    done_cases (line_taken s st p) n (λ t. lines_taken s t (suc n) (q ∷ ps)) last is (λ after taken rest.
    let t = line-tells s st p after fits taken in
    let shown_after = show_moved (marks_after st.marks t.event) after.marks (t.event ∷ before) t.marks (show_after s st t.event before t.allowed shown) in
    tale_next s st p after before (q ∷ ps) last f.marks shown t (telling s fits (q ∷ ps) after (suc n) (t.event ∷ before) last (fits_kept s st p after fits f taken) shown_after rest))
