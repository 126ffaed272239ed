-- What an earlier event has done still stands: notes, stops and views.
use Rattle.std.specs.Prelude.{ℕ, ◌≡◌, ◌+◌, ◌-◌, ◌<◌, ◌≤◌, Bool, true, false, ◌&&◌, List, [], ◌∷◌, ◌++◌, length, Option, is_none, if◌then◌else◌}
use Rattle.std.proofs.Common.{arith, refl, sym, ap, ◌∙◌, inl, inr, subst, length-append}
use Rattle.std.proofs.lemmas.Bool.{cond_both}
use Rattle.zeus_base.specs.Nodes.{has}
use Rattle.zeus_base.specs.declared.config.Config.{Config}
use Rattle.zeus_base.specs.TableLaws.{nth-append, nth-last}
use Rattle.zeus_txn.specs.declared.tx.TxDecl.{TxDecl}
use Rattle.zeus_model.specs.declared.answer.Answer.{Answer}
use Rattle.zeus_model.specs.declared.answer.Answer.TheVariants.{Try}
use Rattle.zeus_model.specs.declared.answer.Tried.{Tried}
use Rattle.zeus_model.specs.declared.answer.Tried.TheVariants.{NoCopy}
use Rattle.zeus_model.specs.In.{In, here, there}
use Rattle.zeus_model.specs.Tables.{nth, below}
use Rattle.zeus_model.specs.World.{is_empty}
use Rattle.zeus_model.specs.InLaws.{In-append}
use Rattle.machine_moves.proofs.Lists.{In-nothing}
use Rattle.live_model.specs.Items.{Note, Acked, Refused, Stopped, Sight, travels}
use Rattle.live_model.specs.Cell.{CellEvent, Core, Deed, Halted, after, core_from, does, notes_down, is_halt, halt_of, halts}
use Rattle.live_model.specs.Ends.{ClientId, acked_at, refused_by, refused_at, ends_at, is_awaited, awaited, is_open_at, stopped_at, stops_at, notes_from}
use Rattle.live_model.specs.Service.{ServiceEvent, viewed, views_from, sight_at, sights_from}
use Rattle.live_replay.proofs.Acks.{IsAcked, notes_down-acks}
use Rattle.live_replay.proofs.Posting.{NoneBefore}
use Rattle.live_replay.proofs.Tries.{does-stopped, stop-stops}

-- events put together lead a cell's core where the later ones lead it from the core after the earlier ones
pub core_from-append : (me : ℕ) (c : Config) (txs : List TxDecl) (core : Core) (xs ys : List CellEvent) → core_from me c txs core (xs ++ ys) ≡ core_from me c txs (core_from me c txs core xs) ys
unfolding core_from
core_from-append me c txs core [] ys = refl
core_from-append me c txs core (x ∷ xs) ys = core_from-append me c txs (after me c txs core x) xs ys

-- ---- what stays

acked-stays : (me : ℕ) (c : Config) (txs : List TxDecl) (core : Core) (es : List CellEvent) (k : ℕ) → IsAcked core.book k → IsAcked (core_from me c txs core es).book k
unfolding core_from after
acked-stays me c txs core [] k h = h
acked-stays me c txs core (e ∷ es) k h =
    let a = notes_down-acks e.deed me c.degree txs core.book core.node in
    acked-stays me c txs (after me c txs core e) es k (a.kept k h)

stopped-stays : (me : ℕ) (c : Config) (txs : List TxDecl) (core : Core) (es : List CellEvent) → core.node.stopped ≡ true → (core_from me c txs core es).node.stopped ≡ true
unfolding core_from after
stopped-stays me c txs core [] h = h
stopped-stays me c txs core (e ∷ es) h = stopped-stays me c txs (after me c txs core e) es (does-stopped txs core.node e.deed h)

-- ---- notes

-- a note has its event's clock, and a note of an acknowledgement is of a transaction that the event acknowledges
pub record IsTold (clock : ℕ) (acked : List ℕ) (n : Note) : Type 0 where
  pub at : n.clock ≡ clock
  pub told : n.end ≡ Acked → In n.tx acked

acked_at-told : (clock : ℕ) (ks all : List ℕ) (n : Note) → ((k : ℕ) → In k ks → In k all) → In n (acked_at clock ks) → IsTold clock all n
unfolding acked_at
acked_at-told clock [] all n h is = In-nothing n is
acked_at-told clock (k ∷ ks) all n h (here _ _ e) =
    record { at = ap (λ (m : Note). m.clock) e; told = λ _. rw (ap (λ (m : Note). m.tx) e) (h k (here k ks refl)) }
acked_at-told clock (k ∷ ks) all n h (there _ _ is) = acked_at-told clock ks all n (λ j at. h j (there k ks at)) is

refused-told : (clock k : ℕ) (all : List ℕ) (n : Note) → In n (record { tx = k; clock = clock; end = Refused } ∷ []) → IsTold clock all n
refused-told clock k all n (here _ _ e) =
    let end : n.end ≡ Refused = ap (λ (m : Note). m.end) e in record { at = ap (λ (m : Note). m.clock) e; told = λ acked. absurd cc }
refused-told clock k all n (there _ _ is) = In-nothing n is

refused_by-told : (t : Tried) (clock : ℕ) (all : List ℕ) (n : Note) → In n (refused_by clock t) → IsTold clock all n
unfolding refused_by
refused_by-told (NoCopy k x) clock all n is = refused-told clock k all n is
refused_by-told _ clock all n is = In-nothing n is

refused_of-told : (none : Bool) (t : Tried) (clock : ℕ) (all : List ℕ) (n : Note) → In n (if none then refused_by clock t else []) → IsTold clock all n
refused_of-told true t clock all n is = refused_by-told t clock all n is
refused_of-told false t clock all n is = In-nothing n is

refused_at-told : (a : Answer) (degree : Option ℕ) (clock : ℕ) (all : List ℕ) (n : Note) → In n (refused_at degree clock a) → IsTold clock all n
unfolding refused_at
refused_at-told (Try t) degree clock all n is = refused_of-told (is_none degree) t clock all n is
refused_at-told _ degree clock all n is = In-nothing n is

stopped-told : (clock k : ℕ) (all : List ℕ) (rest : List Note) (n : Note) → (In n rest → IsTold clock all n) → In n (record { tx = k; clock = clock; end = Stopped } ∷ rest) → IsTold clock all n
stopped-told clock k all rest n h (here _ _ e) =
    let end : n.end ≡ Stopped = ap (λ (m : Note). m.end) e in record { at = ap (λ (m : Note). m.clock) e; told = λ acked. absurd cc }
stopped-told clock k all rest n h (there _ _ is) = h is

stopped_at-told : (me : ℕ) (txs : List TxDecl) (core : Core) (clock : ℕ) (ks all : List ℕ) (n : Note) → In n (stopped_at me txs core clock ks) → IsTold clock all n
unfolding stopped_at
stopped_at-told me txs core clock [] all n is = In-nothing n is
stopped_at-told me txs core clock (k ∷ ks) all n is =
    cond_both (is_open_at me txs core.book k) (record { tx = k; clock = clock; end = Stopped } ∷ stopped_at me txs core clock ks) (stopped_at me txs core clock ks)
    (λ (ns : List Note). In n ns → IsTold clock all n)
    (λ _. stopped-told clock k all (stopped_at me txs core clock ks) n (stopped_at-told me txs core clock ks all n))
    (λ _. stopped_at-told me txs core clock ks all n) is

stops_of-told : (halt : Bool) (me : ℕ) (txs : List TxDecl) (core : Core) (clock : ℕ) (ks all : List ℕ) (n : Note) → In n (if halt then stopped_at me txs core clock ks else []) → IsTold clock all n
stops_of-told true me txs core clock ks all n is = stopped_at-told me txs core clock ks all n is
stops_of-told false me txs core clock ks all n is = In-nothing n is

-- if a note is among those that a client waits for, then it is among all
pub awaited-In : (txs : List TxDecl) (client : ClientId) (ns : List Note) (n : Note) → In n (awaited txs client ns) → In n ns
unfolding awaited
awaited-In txs client [] n is = is
awaited-In txs client (m ∷ ms) n is =
    cond_both (is_awaited txs client m.tx && travels m.clock) (m ∷ awaited txs client ms) (awaited txs client ms)
    (λ (ns : List Note). In n ns → In n (m ∷ ms))
    (λ _. kept m ms n (awaited txs client ms) (awaited-In txs client ms n)) (λ _ at. there m ms (awaited-In txs client ms n at)) is
  where
    kept : (m : Note) (ms : List Note) (n : Note) (rest : List Note) → (In n rest → In n ms) → In n (m ∷ rest) → In n (m ∷ ms)
    kept m ms n rest h (here _ _ e) = here m ms e
    kept m ms n rest h (there _ _ at) = there m ms (h at)

event-told : (me : ℕ) (c : Config) (txs : List TxDecl) (core : Core) (e : CellEvent) (n : Note) → In n (ends_at me c txs core e ++ stops_at me txs core e)
    → IsTold e.clock (notes_down me c.degree txs core.book core.node e.deed).acked n
unfolding ends_at stops_at
event-told me c txs core e n is =
    let acked = (notes_down me c.degree txs core.book core.node e.deed).acked in
    elim (In-append n (ends_at me c txs core e) (stops_at me txs core e) is) [
      | inl ended ↦ elim (In-append n (acked_at e.clock acked) (refused_at c.degree e.clock (does txs core.node e.deed).answer) ended) [
        | inl a ↦ acked_at-told e.clock acked acked n (λ k at. at) a
        | inr r ↦ refused_at-told (does txs core.node e.deed).answer c.degree e.clock acked n r
      ]
      | inr stops ↦ stops_of-told (is_halt e.deed) me txs core e.clock (below (length txs)) acked n stops
    ]

notes-late : (me : ℕ) (c : Config) (txs : List TxDecl) (client : ClientId) (bound : ℕ) (core : Core) (es : List CellEvent) (n : Note) → NoneBefore bound es → In n (notes_from me c txs client core es) → bound ≤ n.clock
unfolding notes_from NoneBefore
notes-late me c txs client bound core [] n none is = In-nothing n is
notes-late me c txs client bound core (e ∷ es) n none is =
    let low = none.0 in
    elim (In-append n (awaited txs client (ends_at me c txs core e ++ stops_at me txs core e)) _ is) [
      | inl first ↦ let t = event-told me c txs core e n (awaited-In txs client _ n first) in let at = t.at in omega arith
      | inr later ↦ notes-late me c txs client bound (after me c txs core e) es n none.1 later
    ]

-- the note is of an acknowledgement, and has an earlier clock than each of the events
pub record IsEarlyAck (events : List CellEvent) (n : Note) : Type 0 where
  pub bound : ℕ
  pub late : NoneBefore bound events
  pub early : n.clock < bound
  pub acked : n.end ≡ Acked

-- an acknowledgement that was noted earlier still stands
pub noted-early : (me : ℕ) (c : Config) (txs : List TxDecl) (client : ClientId) (core : Core) (xs ys : List CellEvent) (n : Note)
    → IsEarlyAck ys n → In n (notes_from me c txs client core (xs ++ ys)) → IsAcked (core_from me c txs core xs).book n.tx
unfolding notes_from core_from after
noted-early me c txs client core [] ys n a is =
    let early = a.early in
    let low : a.bound ≤ n.clock = notes-late me c txs client a.bound core ys n a.late is in absurd (omega arith)
noted-early me c txs client core (e ∷ es) ys n a is =
    elim (In-append n (awaited txs client (ends_at me c txs core e ++ stops_at me txs core e)) _ is) [
      | inl first ↦
          let t = event-told me c txs core e n (awaited-In txs client _ n first) in
          let acks = notes_down-acks e.deed me c.degree txs core.book core.node in
          acked-stays me c txs (after me c txs core e) es n.tx (acks.made n.tx (t.told a.acked))
      | inr later ↦ noted-early me c txs client (after me c txs core e) es ys n a later
    ]

-- ---- stops

-- no deed but `Halted` is a halt
pub is_halted : (d : Deed) → is_halt d ≡ true → d ≡ Halted
unfolding is_halt
is_halted Halted h = refl
is_halted _ h = absurd cc

halt_of-clock : (b : Bool) (clock h : ℕ) → In h (if b then clock ∷ [] else []) → (h ≡ clock) × (b ≡ true)
halt_of-clock true clock h (here _ _ e) = (e, refl)
halt_of-clock true clock h (there _ _ is) = In-nothing h is
halt_of-clock false clock h is = In-nothing h is

-- if no event is before a bound, then no halt is
pub halts-late : (bound : ℕ) (es : List CellEvent) (h : ℕ) → NoneBefore bound es → In h (halts es) → bound ≤ h
unfolding halts halt_of NoneBefore
halts-late bound [] h none is = In-nothing h is
halts-late bound (e ∷ es) h none is =
    let low = none.0 in
    elim (In-append h (halt_of e) (halts es) is) [
      | inl first ↦ let at : h ≡ e.clock = (halt_of-clock (is_halt e.deed && travels e.clock) e.clock h first).0 in omega arith
      | inr later ↦ halts-late bound es h none.1 later
    ]

both_true : (a b : Bool) → (a && b) ≡ true → a ≡ true
both_true true b h = refl
both_true false b h = h

-- a node that stopped earlier is stopped
pub halted-early : (me : ℕ) (c : Config) (txs : List TxDecl) (bound : ℕ) (core : Core) (xs ys : List CellEvent) (h : ℕ)
    → NoneBefore bound ys → h < bound → In h (halts (xs ++ ys)) → (core_from me c txs core xs).node.stopped ≡ true
unfolding halts halt_of core_from after
halted-early me c txs bound core [] ys h none less is = let low : bound ≤ h = halts-late bound ys h none is in absurd (omega arith)
halted-early me c txs bound core (e ∷ es) ys h none less is =
    elim (In-append h (halt_of e) (halts (es ++ ys)) is) [
      | inl first ↦
          let halt : e.deed ≡ Halted = is_halted e.deed (both_true (is_halt e.deed) (travels e.clock) (halt_of-clock (is_halt e.deed && travels e.clock) e.clock h first).1) in
          stopped-stays me c txs (after me c txs core e) es (subst (λ (d : Deed). (does txs core.node d).node.stopped ≡ true) (sym halt) (stop-stops txs core.node))
      | inr later ↦ halted-early me c txs bound (after me c txs core e) es ys h none less later
    ]

-- ---- views

unfoldable pub NoneServedBefore : ℕ → List ServiceEvent → Type 0
NoneServedBefore bound [] = Unit {0}
NoneServedBefore bound (e ∷ es) = (bound ≤ e.clock) × NoneServedBefore bound es

-- the view of an epoch is there
pub record HasView (views : List (List ℕ)) (v : Sight) : Type 0 where
  pub first : 1 ≤ v.epoch
  pub made : v.epoch ≤ length views
  pub is : nth [] views (v.epoch - 1) ≡ v.members

viewed-keeps : (views : List (List ℕ)) (members : List ℕ) (v : Sight) → HasView views v → HasView (viewed views members) v
unfolding viewed
viewed-keeps views members v h =
    cond_both (is_empty members) views (views ++ members ∷ []) (λ (vs : List (List ℕ)). HasView vs v) (λ _. h)
    (λ _. let first = h.first in let made = h.made in let more : length (views ++ members ∷ []) ≡ length views + 1 = length-append views (members ∷ []) in
    record { first = first; made = omega arith; is = nth-append [] views (members ∷ []) (v.epoch - 1) (omega arith) ∙ h.is })

views_from-keeps : (views : List (List ℕ)) (es : List ServiceEvent) (v : Sight) → HasView views v → HasView (views_from views es) v
unfolding views_from
views_from-keeps views [] v h = h
views_from-keeps views (e ∷ es) v h = views_from-keeps (viewed views e.members) es v (viewed-keeps views e.members v h)

not_empty : (m : ℕ) (ms : List ℕ) → has m ms ≡ true → is_empty ms ≡ false
unfolding has is_empty
not_empty m [] h = absurd cc
not_empty m (k ∷ ks) h = refl

sight_of : (b : Bool) (s v : Sight) → In v (if b then s ∷ [] else []) → (v ≡ s) × (b ≡ true)
sight_of true s v (here _ _ e) = (e, refl)
sight_of true s v (there _ _ is) = In-nothing v is
sight_of false s v is = In-nothing v is

sight_at-view : (m : ℕ) (views : List (List ℕ)) (e : ServiceEvent) (v : Sight) → In v (sight_at m views e) → (v.clock ≡ e.clock) × HasView (viewed views e.members) v
unfolding sight_at viewed
sight_at-view m views e v is =
    let s : Sight = record { clock = e.clock; epoch = length views + 1; members = e.members } in
    let h = sight_of (has m e.members && travels e.clock) s v is in
    let some : is_empty e.members ≡ false = not_empty m e.members (both_true (has m e.members) (travels e.clock) h.1) in
    let epoch : v.epoch ≡ length views + 1 = ap (λ (x : Sight). x.epoch) h.0 in
    let members : v.members ≡ e.members = ap (λ (x : Sight). x.members) h.0 in
    let more : length (views ++ e.members ∷ []) ≡ length views + 1 = length-append views (e.members ∷ []) in
    let place : v.epoch - 1 ≡ length views = omega arith in
    (ap (λ (x : Sight). x.clock) h.0, rw some (record { first = omega arith; made = omega arith; is = rw (place, members) (nth-last [] views e.members) }))

-- if no event of the service is before a bound, then no sight of a view is
pub sights-late : (m bound : ℕ) (views : List (List ℕ)) (es : List ServiceEvent) (v : Sight) → NoneServedBefore bound es → In v (sights_from m views es) → bound ≤ v.clock
unfolding sights_from NoneServedBefore
sights-late m bound views [] v none is = In-nothing v is
sights-late m bound views (e ∷ es) v none is =
    let low = none.0 in
    elim (In-append v (sight_at m views e) _ is) [
      | inl first ↦ let at : v.clock ≡ e.clock = (sight_at-view m views e v first).0 in omega arith
      | inr later ↦ sights-late m bound (viewed views e.members) es v none.1 later
    ]

-- a view that was sent earlier is there
pub seen-early : (m bound : ℕ) (views : List (List ℕ)) (xs ys : List ServiceEvent) (v : Sight) → NoneServedBefore bound ys → v.clock < bound → In v (sights_from m views (xs ++ ys))
    → HasView (views_from views xs) v
unfolding sights_from views_from
seen-early m bound views [] ys v none less is = let low : bound ≤ v.clock = sights-late m bound views ys v none is in absurd (omega arith)
seen-early m bound views (e ∷ es) ys v none less is =
    elim (In-append v (sight_at m views e) _ is) [
      | inl first ↦ views_from-keeps (viewed views e.members) es v (sight_at-view m views e v first).1
      | inr later ↦ seen-early m bound (viewed views e.members) es ys v none less later
    ]
