-- What a follower answers to the letters of a stream, and what it then has of copies and streams.
use Rattle.std.specs.Prelude.{ℕ, ◌≡◌, ◌-◌, List, [], ◌∷◌, take, drop, nat_lt, Option, if◌then◌else◌}
use Rattle.zeus_base.specs.declared.order.Stream.{Stream}
use Rattle.zeus_packet.specs.declared.letter.Body.TheVariants.{RAck}
use Rattle.zeus_packet.specs.declared.letter.Letter.{Letter}
use Rattle.zeus_packet.specs.declared.letter.RInv.{RInv}
use Rattle.zeus_model.specs.declared.answer.Outcome.{Outcome}
use Rattle.zeus_model.specs.declared.answer.Outcome.TheVariants.{Taken as TakenLetter, Again as AgainLetter, Gap as GapLetter, Refused}
use Rattle.zeus_model.specs.declared.state.Copy.{Copy}
use Rattle.zeus_model.specs.Act.{letter}
use Rattle.zeus_model.specs.Commit.{each_write, validated, writes_of}
use Rattle.zeus_model.specs.State.{Node, StreamLog}
use Rattle.object_table.specs.Table.{AreWithin}
use Rattle.follower_log.specs.Streams.{IsStreamOf, log_at, with_log_at}
use Rattle.reliable_commit.specs.declared.follow.RInvAnswer.{RInvAnswer}
use Rattle.reliable_commit.specs.declared.follow.RInvAnswer.TheVariants.{Taken, Again, Gap, No}
use Rattle.reliable_commit.specs.declared.follow.RValAnswer.{RValAnswer}
use Rattle.reliable_commit.specs.declared.follow.RValAnswer.TheVariants.{Taken as News, Again as Known, No as Refusal}

-- a node that has these copies and streams, and this number
pub record IsNodeWith (n : Node) (cs : List (Option Copy)) (ls : List (List StreamLog)) (m : ℕ) : Type 0 where
  pub copies : n.copies ≡ cs
  pub logs : n.logs ≡ ls
  pub me : n.me ≡ m

-- the stream is one that there is, and its stored entries write objects that there are
pub record IsFollowed (objects : ℕ) (ls : List (List StreamLog)) (s : Stream) : Type 0 where
  pub stream : IsStreamOf ls s
  pub within : AreWithin objects (writes_of (log_at ls s).kept)

-- the answer to an entry
unfoldable pub rinv_outcome : RInvAnswer → Outcome
rinv_outcome Taken = TakenLetter
rinv_outcome Again = AgainLetter
rinv_outcome (Gap next) = GapLetter next
rinv_outcome (No cause) = Refused cause

-- an acknowledgement goes to the sender of an entry exactly where the entry is stored, now or before
unfoldable pub rinv_acks : Node → ℕ → RInv → RInvAnswer → List Letter
rinv_acks n from r Taken = letter n from (RAck r.stream r.number) ∷ []
rinv_acks n from r Again = letter n from (RAck r.stream r.number) ∷ []
rinv_acks n from r (Gap next) = []
rinv_acks n from r (No cause) = []

-- the answer to the word of how many entries have passed
unfoldable pub rval_outcome : RValAnswer → Outcome
rval_outcome News = TakenLetter
rval_outcome Known = AgainLetter
rval_outcome (Refusal cause) = Refused cause

-- the copies after the stored entries of a stream below the number have passed
unfoldable pub raised_copies : List (Option Copy) → StreamLog → ℕ → List (Option Copy)
raised_copies copies l d =
    if nat_lt l.done d then each_write validated copies (writes_of (take (d - l.done) l.kept)) else copies

-- the streams after the entries of one below the number have passed
unfoldable pub raised_logs : List (List StreamLog) → Stream → ℕ → List (List StreamLog)
raised_logs logs s d =
    if nat_lt (log_at logs s).done d
    then with_log_at logs s record { done = d; kept = drop (d - (log_at logs s).done) (log_at logs s).kept }
    else logs
