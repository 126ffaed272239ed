-- What a node tells again of its reports, its requests and the passes of its slots.
use Rattle.std.proofs.Common.{ℕ, ◌≡◌, ◌<◌, ◌≤◌, Bool, true, false, [], Option, Some, None, length, refl, sym, ap, ◌∙◌}
use Rattle.std.specs.Prelude.{◌&&◌, nat_lt, is_some, if◌then◌else◌}
use Rattle.std.proofs.lemmas.Bool.{cond_both, lt-ltb, le-ltb}
use Rattle.zeus_base.specs.Nodes.{has}
use Rattle.zeus_packet.specs.declared.letter.Body.TheVariants.{RVal, Recovered}
use Rattle.zeus_txn.specs.Ops.{is_write}
use Rattle.zeus_model.specs.declared.state.Current.{Current}
use Rattle.zeus_model.specs.Act.{Did, just, sends, to_each}
use Rattle.zeus_model.specs.declared.answer.Ticked.{Ticked as TickAnswer}
use Rattle.zeus_model.specs.declared.answer.Ticked.TheVariants.{Stopped, Ticked}
use Rattle.zeus_model.specs.Membership.{others, repeat_done, repeat_report, repeat_requests, repeats, tick}
use Rattle.zeus_model.specs.State.{Node, Slot, own_stream, slot}
use Rattle.node_state.specs.declared.effect.Effect.{Effect}
use Rattle.node_state.specs.Done.{Adds, IsDone}
use Rattle.node_state.specs.EffectLaws.{adds_nothing}
use Rattle.node_state.specs.Requests.{requests_for_copies, requests_to_own}

-- ---- reports

-- in a later epoch a node that has reported says so
pub report-told : (n : Node) → 1 < n.epoch → has n.me n.reported ≡ true → repeat_report n ≡ to_each n (others n) Recovered
unfolding repeat_report
report-told n later has_reported = rw (lt-ltb 1 n.epoch later, has_reported) refl

-- in the first epoch it says nothing
pub report-early : (n : Node) → n.epoch ≤ 1 → repeat_report n ≡ []
unfolding repeat_report
report-early n early = rw (le-ltb 1 n.epoch early) refl

-- nor where it has not reported
pub report-none : (n : Node) → has n.me n.reported ≡ false → repeat_report n ≡ []
unfolding repeat_report
report-none n not_yet = none (nat_lt 1 n.epoch) (has n.me n.reported) not_yet
  where
    none : (a b : Bool) → b ≡ false → (if a && b then to_each n (others n) Recovered else []) ≡ []
    none true b e = rw e refl
    none false b e = refl

-- ---- passes

-- some entries of the slot have passed
pub done-told : (n : Node) (s : ℕ) (l : Slot) (d : ℕ) → l ≡ slot n s → d ≡ l.done → 0 < d → repeat_done n s ≡ to_each n (others n) (RVal (own_stream n s) d)
unfolding repeat_done
done-told n s l d here is some =
    let at : (slot n s).done ≡ d = ap (λ (k : Slot). k.done) (sym here) ∙ sym is in
    rw (at, lt-ltb 0 d some) refl

-- none has
pub done-none : (n : Node) (s : ℕ) (l : Slot) (d : ℕ) → l ≡ slot n s → d ≡ l.done → d ≤ 0 → repeat_done n s ≡ []
unfolding repeat_done
done-none n s l d here is none =
    let at : (slot n s).done ≡ d = ap (λ (k : Slot). k.done) (sym here) ∙ sym is in
    rw (at, le-ltb 0 d none) refl

-- ---- requests

-- the slot has no current transaction
pub requests-idle : (n : Node) (c : Option Current) → c ≡ None → repeat_requests n c ≡ []
unfolding repeat_requests
requests-idle n c none = rw none refl

-- it has a write transaction
pub requests-write : (n : Node) (o : Option Current) (c : Current) → o ≡ Some c → is_write c.tx ≡ true → repeat_requests n o ≡ requests_to_own n o
unfolding repeat_requests requests_to_own
requests-write n o c is write = rw (is, write) refl

-- it has a read, and there is a degree
pub requests-read : (n : Node) (o : Option Current) (c : Current) → o ≡ Some c → is_write c.tx ≡ false → is_some n.degree ≡ true → repeat_requests n o ≡ requests_for_copies n o
unfolding repeat_requests requests_for_copies
requests-read n o c is read degree = rw (is, read, degree) refl

-- it has a read, and there is none
pub requests-none : (n : Node) (o : Option Current) (c : Current) → o ≡ Some c → is_write c.tx ≡ false → is_some n.degree ≡ false → repeat_requests n o ≡ []
unfolding repeat_requests
requests-none n o c is read none = rw (is, read, none) refl

-- ---- the whole tick

-- a stopped node does nothing
pub tick-stopped : (n : Node) (out : Effect) → n.stopped ≡ true → length out.sent ≤ 64 → IsDone (tick n) Stopped n out out
unfolding tick
tick-stopped n out stopped room =
    cond_both n.stopped (just n Stopped) (sends n Ticked (repeats n)) (λ (d : Did TickAnswer). IsDone d Stopped n out out)
    (λ _. record { says = refl; becomes = refl; adds = adds_nothing out room }) (λ running. absurd cc)

-- a running one says all of it again
pub tick-running : (n : Node) (before after : Effect) → n.stopped ≡ false → Adds (repeats n) [] before after → IsDone (tick n) Ticked n before after
unfolding tick
tick-running n before after running add =
    cond_both n.stopped (just n Stopped) (sends n Ticked (repeats n)) (λ (d : Did TickAnswer). IsDone d Ticked n before after)
    (λ stopped. absurd cc) (λ _. record { says = refl; becomes = refl; adds = add })
