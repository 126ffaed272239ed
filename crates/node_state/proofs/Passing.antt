-- A stream that advances, with what is told and noted of it.
use Rattle.std.proofs.Common.{ℕ, ◌≡◌, ◌<◌, ◌≤◌, List, [], ◌∷◌, None, length, refl, ap}
use Rattle.std.specs.Prelude.{slice_get}
use Rattle.zeus_base.specs.declared.order.Stream.{Stream}
use Rattle.zeus_packet.specs.declared.letter.Body.TheVariants.{RVal}
use Rattle.zeus_model.specs.Act.{Act, still, to_each}
use Rattle.zeus_model.specs.Commit.{advance_kept, advance_kept_by, advance_own}
use Rattle.zeus_model.specs.State.{Node, log}
use Rattle.zeus_model.specs.Tables.{front}
use Rattle.zeus_model.specs.declared.state.Kept.{Kept}
use Rattle.reliable_commit.specs.Advancing.{passed_by}
use Rattle.reliable_commit.specs.Frames.{advance_kept-frame, advance_own-frame}
use Rattle.reliable_commit.specs.declared.advance.Advance.{Advance}
use Rattle.node_state.specs.declared.effect.Effect.{Effect}
use Rattle.node_state.specs.Done.{Adds, IsActed}
use Rattle.node_state.specs.EffectLaws.{adds_nothing}
use Rattle.node_state.specs.LetterLaws.{to_each-same}

advance_own-me : (n : Node) (s : ℕ) → s < length n.slots → n.me ≡ (advance_own n s).node.me
advance_own-me n s h = ap (λ (m : Node). m.me) (advance_own-frame n s h)

advance_own-epoch : (n : Node) (s : ℕ) → s < length n.slots → n.epoch ≡ (advance_own n s).node.epoch
advance_own-epoch n s h = ap (λ (m : Node). m.epoch) (advance_own-frame n s h)

advance_kept-me : (n : Node) (s : Stream) → n.me ≡ (advance_kept n s).node.me
advance_kept-me n s = ap (λ (m : Node). m.me) (advance_kept-frame n s)

advance_kept-epoch : (n : Node) (s : Stream) → n.epoch ≡ (advance_kept n s).node.epoch
advance_kept-epoch n s = ap (λ (m : Node). m.epoch) (advance_kept-frame n s)

told : (n m : Node) (a : Act) (s : Stream) (d : Advance) (before after : Effect) → m ≡ a.node → n.me ≡ a.node.me → n.epoch ≡ a.node.epoch → a.sent ≡ to_each n d.tell (RVal s d.after) → a.passed ≡ passed_by s d → Adds (to_each m d.tell (RVal s d.after)) (passed_by s d) before after → IsActed a m before after
told n m a s d before after becomes me epoch sent passed adds =
    let same = to_each-same n a.node d.tell (RVal s d.after) me epoch in
    record { becomes = becomes; adds = rw (sent, same, passed) (rw becomes at adds) }

-- if the node is as after an advance of an own stream, and its R-VALs and passes were added, then it has acted as the advance
pub passes-own : (n m : Node) (s : ℕ) (d : Advance) (before after : Effect) → s < length n.slots → m ≡ (advance_own n s).node → (advance_own n s).sent ≡ to_each n d.tell (RVal (record { node = n.me; slot = s }) d.after) → (advance_own n s).passed ≡ passed_by (record { node = n.me; slot = s }) d → Adds (to_each m d.tell (RVal (record { node = n.me; slot = s }) d.after)) (passed_by (record { node = n.me; slot = s }) d) before after → IsActed (advance_own n s) m before after
passes-own n m s d before after h becomes sent passed adds =
    told n m (advance_own n s) (record { node = n.me; slot = s }) d before after becomes (advance_own-me n s h) (advance_own-epoch n s h) sent passed adds

-- if the node is as after an advance of a stored stream, and its R-VALs and passes were added, then it has acted as the advance
pub passes-kept : (n m : Node) (s : Stream) (d : Advance) (before after : Effect) → m ≡ (advance_kept n s).node → (advance_kept n s).sent ≡ to_each n d.tell (RVal s d.after) → (advance_kept n s).passed ≡ passed_by s d → Adds (to_each m d.tell (RVal s d.after)) (passed_by s d) before after → IsActed (advance_kept n s) m before after
passes-kept n m s d before after becomes sent passed adds =
    told n m (advance_kept n s) s d before after becomes (advance_kept-me n s) (advance_kept-epoch n s) sent passed adds

kept-still : (n : Node) (s : Stream) (ks : List Kept) → (log n s).kept ≡ ks → slice_get ks 0 ≡ None → advance_kept n s ≡ still n
unfolding advance_kept advance_kept_by front
kept-still n s [] is none = rw is refl
kept-still n s (k ∷ ks) is none = absurd cc

-- a stream of which no entry is stored does not advance
pub passes-none : (n : Node) (s : Stream) (out : Effect) → slice_get (log n s).kept 0 ≡ None → length out.sent ≤ 64 → IsActed (advance_kept n s) n out out
passes-none n s out none room = rw (kept-still n s (log n s).kept refl none) (record { becomes = refl; adds = adds_nothing out room })
