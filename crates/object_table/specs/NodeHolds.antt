-- The slots of a node hold what their pending entries name: at the start, and after each rule that changes a slot.
use Rattle.std.specs.Prelude.{ℕ, zero, suc, ◌≡◌, ◌≢◌, ◌+◌, ◌-◌, true, ◌&&◌, not, List, [], ◌∷◌, ◌++◌, length, map, take, drop, replicate, Option, None, if◌then◌else◌, refl}
use Rattle.std.proofs.Common.{arith, sym, ap, ◌∙◌, inl, inr}
use Rattle.std.proofs.lemmas.Bool.{cases_Bool, cases_eq}
use Rattle.std.proofs.lemmas.Bool.Decides.{nat_tests}
use Rattle.zeus_base.specs.declared.config.Config.{Config}
use Rattle.zeus_base.specs.Nodes.{has}
use Rattle.zeus_base.specs.TableLaws.{nth-put_other, nth-put_same}
use Rattle.zeus_packet.specs.declared.write.Write.{Write}
use Rattle.zeus_txn.specs.Ops.{mentions, named}
use Rattle.zeus_txn.specs.RunLaws.{AreDistinct}
use Rattle.zeus_txn.specs.declared.reply.Ran.{Ran}
use Rattle.zeus_model.specs.declared.state.Current.{Current}
use Rattle.zeus_model.specs.declared.state.Pending.{Pending}
use Rattle.zeus_model.specs.Commit.{acked_pending, advance_own, advance_own_by, as_kept, is_within, no_pending, on_own_rack, pass_own, passing}
use Rattle.zeus_model.specs.Local.{committed, with_current}
use Rattle.zeus_model.specs.State.{Node, Slot, no_slot, slot, with_slot}
use Rattle.zeus_model.specs.Tables.{nth, put}
use Rattle.zeus_model.specs.World.{start_node}
use Rattle.object_table.specs.declared.hold.Hold.{Hold}
use Rattle.object_table.specs.Entries.{named_of, naming}
use Rattle.object_table.specs.Holding.{AreHeld, IsFreeFor, IsPositive, NameOnce, held_times}
use Rattle.object_table.specs.NamedLaws.{distinct-named}
use Rattle.object_table.specs.Table.{each_held, each_unheld}
use Rattle.object_table.specs.HeldLaws.{held_times-each_held, naming-push, positive-each_held, positive-each_unheld, unheld-nil}
use Rattle.object_table.specs.HoldingLaws.{held_times-drop, held_times-drop_beside, naming-acked, once-acked, once-drop, once-push}

-- at the start no slot has an entry, and no object is held
nth-all : {A : Type 0} (d : A) (n i : ℕ) → nth d (replicate n d) i ≡ d
unfolding nth
nth-all d zero i = refl
nth-all d (suc n) zero = refl
nth-all d (suc n) (suc i) = nth-all d n i

-- at the start no slot holds an object, and none is named
pub AreHeld-start : (c : Config) (me k : ℕ) → AreHeld (start_node c me) (replicate k None)
unfolding start_node naming held_times IsPositive NameOnce
AreHeld-start c me k =
    record {
      counts = λ s x. rw (nth-all no_slot c.slots s, nth-all {A = Option Hold} None k x) refl;
      positive = λ x. rw (nth-all {A = Option Hold} None k x) tt;
      once = λ s. rw (nth-all no_slot c.slots s) tt;
    }

-- each slot has the same pending entries
pub AreHeld-same : (n m : Node) (holds : List (Option Hold)) → ((t : ℕ) → (slot m t).pending ≡ (slot n t).pending) → AreHeld n holds → AreHeld m holds
AreHeld-same n m holds same h =
    record {
      counts = λ s x. ap (naming x) (same s) ∙ h.counts s x;
      positive = h.positive;
      once = λ s. rw (same s) (h.once s);
    }

module _ (n m : Node) (s : ℕ) (holds : List (Option Hold)) (others : (t : ℕ) → s ≢ t → (slot m t).pending ≡ (slot n t).pending) (is : AreHeld n holds) where
  once-slot : NameOnce (slot m s).pending → (t : ℕ) → NameOnce (slot m t).pending
  once-slot here = λ t.
      elim (cases_eq s t) [
        | inl same ↦ rw (← same) here
        | inr other ↦ rw (others t other) (is.once t)
      ]

  -- a slot has one entry more, whose objects no other slot holds
  pub AreHeld-push : (p : Pending) → (slot m s).pending ≡ (slot n s).pending ++ p ∷ [] → AreDistinct p.named → ((x : ℕ) → mentions x p.named ≡ true → IsFreeFor s (nth None holds x)) → AreHeld m (each_held s holds p.named)
  AreHeld-push p pushed distinct free =
      record {
        counts = λ t x.
            let once_more = held_times-each_held s t holds p.named x distinct (free x) in
            elim (cases_eq s t) [
              | inl same ↦
                  let here : naming x (slot m t).pending ≡ (if mentions x p.named then 1 else 0) + naming x (slot n t).pending = rw (← same) (ap (naming x) pushed ∙ naming-push x (slot n s).pending p) in
                  let before = is.counts t x in
                  grind (arith, nat_tests)
              | inr other ↦
                  let there : naming x (slot m t).pending ≡ naming x (slot n t).pending = ap (naming x) (others t other) in
                  let before = is.counts t x in
                  grind (arith, nat_tests)
            ];
        positive = positive-each_held s holds p.named is.positive;
        once = once-slot (rw pushed (once-push (slot n s).pending p (is.once s) distinct));
      }

  -- an entry of a slot has one acknowledgement more
  pub AreHeld-acked : (i from : ℕ) → (slot m s).pending ≡ put no_pending (slot n s).pending i (acked_pending (nth no_pending (slot n s).pending i) from) → AreHeld m holds
  AreHeld-acked i from acked =
      record {
        counts = λ t x.
            elim (cases_eq s t) [
              | inl same ↦ rw (← same) (ap (naming x) acked ∙ naming-acked x (slot n s).pending i from ∙ is.counts s x)
              | inr other ↦ ap (naming x) (others t other) ∙ is.counts t x
            ];
        positive = is.positive;
        once = once-slot (rw acked (once-acked (slot n s).pending i from (is.once s)));
      }

  -- the first entries of a slot have passed, and what they name is let go
  pub AreHeld-passed : (k : ℕ) → (slot m s).pending ≡ drop k (slot n s).pending → AreHeld m (each_unheld holds (named_of (take k (slot n s).pending)))
  AreHeld-passed k passed =
      record {
        counts = λ t x.
            elim (cases_eq s t) [
              | inl same ↦
                  rw (← same) (ap (naming x) passed ∙ held_times-drop s x k (slot n s).pending holds (is.once s) (is.counts s x))
              | inr other ↦
                  ap (naming x) (others t other) ∙ is.counts t x
                  ∙ sym (held_times-drop_beside s t x k (slot n s).pending holds (λ e. other (sym e)) (is.once s) (is.counts s x))
            ];
        positive = positive-each_unheld holds (named_of (take k (slot n s).pending)) is.positive;
        once = once-slot (rw passed (once-drop k (slot n s).pending (is.once s)));
      }

-- ---- after the rules

at_slot : (slots : List Slot) (s : ℕ) (l : Slot) → (nth no_slot (put no_slot slots s l) s).pending ≡ l.pending
at_slot slots s l = ap (λ (m : Slot). m.pending) (nth-put_same no_slot slots s l)

beside_slot : (slots : List Slot) (s t : ℕ) (l : Slot) → s ≢ t → (nth no_slot (put no_slot slots s l) t).pending ≡ (nth no_slot slots t).pending
beside_slot slots s t l other = ap (λ (m : Slot). m.pending) (nth-put_other no_slot slots s t l other)

-- a slot begins a transaction, or is done with it
pub AreHeld-with_current : (n : Node) (s : ℕ) (c : Option Current) (holds : List (Option Hold)) → AreHeld n holds → AreHeld (with_current n s c) holds
AreHeld-with_current n s c holds h =
    let l : Slot = record { current = c; done = (slot n s).done; pending = (slot n s).pending } in
    AreHeld-same n (with_current n s c) holds
    (λ t. elim (cases_eq s t) [
      | inl same ↦ rw (← same) (at_slot n.slots s l)
      | inr other ↦ beside_slot n.slots s t l other
    ])
    h

-- a transaction is committed whose objects no other slot holds: its slot holds each of them once more
pub AreHeld-committed : (n : Node) (s : ℕ) (c : Current) (ran : Ran) (followers : List ℕ) (writes : List Write) (holds : List (Option Hold)) → ((x : ℕ) → mentions x (named c.tx) ≡ true → IsFreeFor s (nth None holds x)) → AreHeld n holds → AreHeld (committed n s c ran followers writes) (each_held s holds (named c.tx))
AreHeld-committed n s c ran followers writes holds free h =
    let p : Pending = record { id = c.id; reply = ran.reply; named = named c.tx; followers = followers; writes = writes; acks = [] } in
    let l : Slot = record { current = None; done = (slot n s).done; pending = (slot n s).pending ++ p ∷ [] } in
    AreHeld-push n (committed n s c ran followers writes) s holds (λ t. beside_slot n.slots s t l) h p (at_slot n.slots s l) (distinct-named c.tx) free

-- an acknowledgement
pub AreHeld-on_own_rack : (n : Node) (from s number : ℕ) (holds : List (Option Hold)) → AreHeld n holds → AreHeld (on_own_rack n from s number).node holds
unfolding on_own_rack
AreHeld-on_own_rack n from s number holds h =
    let i : ℕ = number - (slot n s).done in
    let l : Slot = record {
      current = (slot n s).current;
      done = (slot n s).done;
      pending = put no_pending (slot n s).pending i (acked_pending (nth no_pending (slot n s).pending i) from);
    } in
    let acked : AreHeld (with_slot n s l) holds = AreHeld-acked n (with_slot n s l) s holds (λ t. beside_slot n.slots s t l) h i from (at_slot n.slots s l) in
    elim (cases_Bool (is_within number (slot n s).done (length (slot n s).pending) && not (has from (nth no_pending (slot n s).pending i).acks))) [
      | inl counts ↦ rw counts acked
      | inr no_news ↦ rw no_news h
    ]

-- the entries that pass are as many as its count of passed ones rises
passed-count : (n : Node) (s k : ℕ) → (slot (advance_own_by n s k).node s).done ≡ (slot n s).done + k
unfolding advance_own_by
passed-count n s zero = omega arith
passed-count n s (suc k) = ap (λ (l : Slot). l.done) (nth-put_same no_slot n.slots s _)

held-advanced : (n : Node) (s k : ℕ) (holds : List (Option Hold)) → AreHeld n holds → AreHeld (advance_own_by n s k).node (each_unheld holds (named_of (take k (slot n s).pending)))
unfolding advance_own_by named_of
held-advanced n s zero holds h = rw (unheld-nil holds) h
held-advanced n s (suc k) holds h =
    let l : Slot = record { current = (slot n s).current; done = (slot n s).done + suc k; pending = drop (suc k) (slot n s).pending } in
    AreHeld-passed n (pass_own n s (suc k)) s holds (λ t. beside_slot n.slots s t l) h (suc k) (at_slot n.slots s l)

-- an own stream advances: what the entries that passed name is let go
pub AreHeld-advance_own : (n : Node) (s k : ℕ) (holds : List (Option Hold)) → k ≡ (slot (advance_own n s).node s).done - (slot n s).done → AreHeld n holds → AreHeld (advance_own n s).node (each_unheld holds (named_of (take k (slot n s).pending)))
unfolding advance_own
AreHeld-advance_own n s k holds e h =
    let count : ℕ = passing n (map as_kept (slot n s).pending) in
    let rises = passed-count n s count in
    let all : k ≡ count = omega arith in
    rw all (held-advanced n s count holds h)
