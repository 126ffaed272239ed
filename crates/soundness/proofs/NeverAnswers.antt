-- Which answers never come.
use Rattle.std.specs.Prelude.{◌≡◌}
use Rattle.zeus_packet.specs.declared.letter.Cause.{Cause}
use Rattle.zeus_packet.specs.declared.letter.Cause.TheVariants.{OwnStream, Window, NotArbiter, NotCollector, OwnPlace}
use Rattle.zeus_model.specs.declared.answer.Answer.{Answer}
use Rattle.zeus_model.specs.declared.answer.Answer.TheVariants.{Receive}
use Rattle.zeus_model.specs.declared.answer.Outcome.TheVariants.{Refused}
use Rattle.soundness.specs.Refusals.{NeverStands, IsNeverRefused, NeverComes}

never-of : (a : Answer) (cause : Cause) → a ≡ Receive (Refused cause) → NeverStands cause → NeverComes a
unfolding NeverComes IsNeverRefused
never-of a cause e h = rw e h

-- a refusal because the stream is the receiver's own is an answer that never comes
pub never-own_stream : (a : Answer) → a ≡ Receive (Refused OwnStream) → NeverComes a
unfolding NeverStands
never-own_stream a e = never-of a OwnStream e tt

-- a refusal because the receiver's window for the stream is full is an answer that never comes
pub never-window : (a : Answer) → a ≡ Receive (Refused Window) → NeverComes a
unfolding NeverStands
never-window a e = never-of a Window e tt

-- a refusal because the receiver is no arbiter of the proposal is an answer that never comes
pub never-not_arbiter : (a : Answer) → a ≡ Receive (Refused NotArbiter) → NeverComes a
unfolding NeverStands
never-not_arbiter a e = never-of a NotArbiter e tt

-- a refusal because the receiver is no collector of the proposal is an answer that never comes
pub never-not_collector : (a : Answer) → a ≡ Receive (Refused NotCollector) → NeverComes a
unfolding NeverStands
never-not_collector a e = never-of a NotCollector e tt

-- a refusal because the placement would make the receiver the owner without its own request is an answer that never comes
pub never-own_place : (a : Answer) → a ≡ Receive (Refused OwnPlace) → NeverComes a
unfolding NeverStands
never-own_place a e = never-of a OwnPlace e tt
