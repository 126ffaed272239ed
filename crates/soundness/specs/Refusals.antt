-- The refusals that no step of a run ever answers.
use Rattle.zeus_packet.specs.declared.letter.Cause.{Cause}
use Rattle.zeus_packet.specs.declared.letter.Cause.TheVariants.{OwnStream, Window, NotArbiter, NotCollector, OwnPlace}
use Rattle.zeus_model.specs.declared.answer.Answer.{Answer}
use Rattle.zeus_model.specs.declared.answer.Answer.TheVariants.{Receive}
use Rattle.zeus_model.specs.declared.answer.Outcome.{Outcome}
use Rattle.zeus_model.specs.declared.answer.Outcome.TheVariants.{Refused}

-- nothing is ever refused since the stream is the node's own, its window is full, the node is no arbiter or no collector of the
-- proposal, or it would become the owner of an object without its own request
unfoldable pub NeverStands : Cause → Type 0
NeverStands OwnStream = Unit {0}
NeverStands Window = Unit {0}
NeverStands NotArbiter = Unit {0}
NeverStands NotCollector = Unit {0}
NeverStands OwnPlace = Unit {0}
NeverStands _ = ⊥

-- a letter is refused for such a cause
unfoldable pub IsNeverRefused : Outcome → Type 0
IsNeverRefused (Refused cause) = NeverStands cause
IsNeverRefused _ = ⊥

-- an answer that no step of a run gives
unfoldable pub NeverComes : Answer → Type 0
NeverComes (Receive outcome) = IsNeverRefused outcome
NeverComes _ = ⊥
