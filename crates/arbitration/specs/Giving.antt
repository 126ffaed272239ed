-- What a source answers to an acknowledgement that it is to make: the content of its copy, or why it gives none.
use Rattle.std.specs.Prelude.{ℕ, ◌≡◌, nat_lt, Option, Some, None, if◌then◌else◌}
use Rattle.zeus_packet.specs.declared.letter.Cause.{Cause}
use Rattle.zeus_packet.specs.declared.write.Content.{Content}
use Rattle.zeus_model.specs.Ownership.{kept_by, unready_cause}
use Rattle.zeus_model.specs.State.{Node, copy, holder}
use Rattle.zeus_model.specs.Tables.{nth, or_else}
use Rattle.object_table.specs.Table.{Table, hold_slot}
use Rattle.arbitration.specs.declared.source.GiveUp.{GiveUp}
use Rattle.arbitration.specs.declared.source.GiveUp.TheVariants.{Given, No}

-- a node of this number that has the copy of the object from the table, and whose holder of it is the table's
pub record IsSourceWith (n : Node) (x : ℕ) (t : Table) (m : ℕ) : Type 0 where
  pub copy : copy n x ≡ nth None t.copies x
  pub holder : holder n x ≡ hold_slot (nth None t.holds x)
  pub me : n.me ≡ m

-- the cause that the answer tells
unfoldable pub told_cause : GiveUp → Option Cause
told_cause (Given content) = None
told_cause (No cause) = Some cause

-- the content that the answer gives
unfoldable pub given_content : GiveUp → Option Content
given_content (Given content) = Some content
given_content (No cause) = None

-- the source's causes, the last of them that it keeps the object for this slot from requesters with a greater number
abbrev pub give_up_cause : Node → ℕ → ℕ → Option ℕ → Option Cause
give_up_cause n x requester kept = or_else (unready_cause n x) (if nat_lt n.me requester then kept_by kept else None)

-- the content of the copy is given where no cause stands against it
unfoldable pub content_without : Option Cause → Option Content → Option Content
content_without None content = content
content_without (Some cause) content = None
