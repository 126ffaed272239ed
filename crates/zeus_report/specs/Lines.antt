-- The single lines of a report.
use Rattle.std.specs.Prelude.{ℕ, List, [], ◌++◌, codes, decimal, if◌then◌else◌}
use Rattle.zeus_packet.specs.declared.letter.Letter.{Letter}
use Rattle.zeus_packet.specs.declared.write.Write.{Write}
use Rattle.zeus_txn.specs.declared.reply.Reply.{Reply}
use Rattle.zeus_base.specs.declared.step.Step.{Step}
use Rattle.zeus_model.specs.declared.answer.Answer.{Answer}
use Rattle.zeus_model.specs.Book.{Book, Point, no_reply, record_of, reply_or}
use Rattle.zeus_model.specs.Readers.{is_live, tx_state}
use Rattle.zeus_model.specs.State.{copy}
use Rattle.zeus_model.specs.Tables.{nth}
use Rattle.zeus_model.specs.ReportText.{step_text, copy_line, line_end}
use Rattle.zeus_model.specs.ReportWords.{number, named_object, body_text, reply_text, answer_text, tx_state_text}
use Rattle.zeus_model.specs.World.{World, node}
use Rattle.zeus_model.specs.Spelling.{word, value_text}

-- `> SENDER RECEIVER NUMBER EPOCH BODY`
abbrev pub packet_line : List (List ℕ) → ℕ → Letter → List ℕ
packet_line names n l = codes ">" ++ number l.from ++ number l.to ++ number n ++ number l.epoch ++ word (body_text names l.body) ++ line_end

-- `* K REPLY`
abbrev pub point_line : ℕ → Reply → List ℕ
point_line id r = codes "*" ++ number id ++ word (reply_text r) ++ line_end

-- `! K`
abbrev pub acked_line : ℕ → List ℕ
acked_line id = codes "!" ++ number id ++ line_end

-- the name of the object, the version and the value
abbrev pub write_text : List (List ℕ) → Write → List ℕ
write_text names w = named_object names w.obj ++ number w.ver ++ word (value_text w.value)

-- `I STEP = ANSWER`
abbrev pub step_answer : List (List ℕ) → ℕ → Step → Answer → List ℕ
step_answer names i s a = decimal i ++ word (step_text s) ++ codes " = " ++ answer_text names a ++ line_end

-- `tx K STATE`
abbrev pub tx_state_line : World → ℕ → List ℕ
tx_state_line w k = codes "tx" ++ number k ++ word (tx_state_text (tx_state w k)) ++ line_end

-- the line of a transaction that has its point, with its reply by the book
abbrev pub point_of : Book → ℕ → List ℕ
point_of b k = point_line k (reply_or (record_of b k).reply)

-- the copy of an object at a node, where the node is live
abbrev pub live_copy : List (List ℕ) → World → ℕ → ℕ → List ℕ
live_copy names w x n = if is_live w n then copy_line names x n (copy (node w n) x) else []

-- the point at a place of the history
abbrev pub point_at : List Point → ℕ → Point
point_at points place = nth record { id = 0; reply = no_reply } points place
