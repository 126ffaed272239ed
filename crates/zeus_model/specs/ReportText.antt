-- The text of a report: what each step of the script answers, makes and sends, and how the world stands at the end.
use Rattle.std.specs.Prelude.{ℕ, suc, List, [], ◌∷◌, ◌++◌, codes, decimal, length, Option, Some, None, if◌then◌else◌}
use Rattle.zeus_base.specs.declared.step.Step.{Step}
use Rattle.zeus_packet.specs.declared.letter.Packet.{Packet}
use Rattle.zeus_model.specs.declared.script.Script.{Script}
use Rattle.zeus_model.specs.declared.state.Copy.{Copy}
use Rattle.zeus_model.specs.Book.{Book, Point, record_of, reply_or}
use Rattle.zeus_model.specs.Readers.{owner, is_lost, live_among, tx_state}
use Rattle.zeus_model.specs.ReportWords.{number, named_object, reply_text, answer_text, body_text, tx_state_text, optional_node, nodes_text, state_text}
use Rattle.zeus_model.specs.Sound.{latest_place}
use Rattle.zeus_model.specs.Spelling.{word, words_text, step_words, value_text}
use Rattle.zeus_model.specs.State.{copy}
use Rattle.zeus_model.specs.Tables.{below}
use Rattle.zeus_model.specs.World.{World, Event, node, start, happens, stepped, run}

-- the end of a line, byte 10
abbrev pub line_end : List ℕ
line_end = 10 ∷ []

-- a step as the script has it
abbrev pub step_text : Step → List ℕ
step_text s = words_text (step_words s)

-- `I STEP = ANSWER`
abbrev pub answer_line : List (List ℕ) → ℕ → Step → Event → List ℕ
answer_line names i s e = decimal i ++ word (step_text s) ++ codes " = " ++ answer_text names e.answer ++ line_end

-- `* K REPLY` for each transaction that has its point in the step
unfoldable pub point_lines : Book → List ℕ → List ℕ
point_lines b [] = []
point_lines b (k ∷ ks) = codes "*" ++ number k ++ word (reply_text (reply_or (record_of b k).reply)) ++ line_end ++ point_lines b ks

-- `! K` for each transaction that the step acknowledges
unfoldable pub acked_lines : List ℕ → List ℕ
acked_lines [] = []
acked_lines (k ∷ ks) = codes "!" ++ number k ++ line_end ++ acked_lines ks

-- `> SENDER RECEIVER NUMBER EPOCH BODY` for each packet that the step sends
unfoldable pub packet_lines : List (List ℕ) → List Packet → List ℕ
packet_lines names [] = []
packet_lines names (p ∷ ps) =
    codes ">" ++ number p.letter.from ++ number p.letter.to ++ number p.number ++ number p.letter.epoch
    ++ word (body_text names p.letter.body) ++ line_end ++ packet_lines names ps

-- the lines of a step: its answer, its points, its acknowledgements, and its packets
abbrev pub event_text : List (List ℕ) → ℕ → Step → Event → List ℕ
event_text names i s e =
    answer_line names i s e ++ point_lines e.world.book e.points ++ acked_lines e.acked ++ packet_lines names e.sent

-- the lines of the steps from a world on, counted from i
unfoldable pub steps_text : List (List ℕ) → World → ℕ → List Step → List ℕ
steps_text names w i [] = []
steps_text names w i (s ∷ ss) = event_text names i s (happens w s) ++ steps_text names (stepped w s) (suc i) ss

-- the transactions of the history, each behind a space
unfoldable pub points_text : List Point → List ℕ
points_text [] = []
points_text (p ∷ ps) = number p.id ++ points_text ps

abbrev pub history_line : Book → List ℕ
history_line b = codes "history" ++ points_text b.points ++ line_end

-- `tx K STATE` for each of the transactions
unfoldable pub tx_state_lines : World → List ℕ → List ℕ
tx_state_lines w [] = []
tx_state_lines w (k ∷ ks) = codes "tx" ++ number k ++ word (tx_state_text (tx_state w k)) ++ line_end ++ tx_state_lines w ks

-- `copy NAME NODE STATE VERSION VALUE`
unfoldable pub copy_line : List (List ℕ) → ℕ → ℕ → Option Copy → List ℕ
copy_line names x n None = []
copy_line names x n (Some c) =
    codes "copy" ++ named_object names x ++ number n ++ word (state_text c.state) ++ number c.ver ++ word (value_text c.value) ++ line_end

-- the copies of an object at the nodes
unfoldable pub copy_lines : List (List ℕ) → World → ℕ → List ℕ → List ℕ
copy_lines names w x [] = []
copy_lines names w x (n ∷ ns) = copy_line names x n (copy (node w n) x) ++ copy_lines names w x ns

-- `lost NAME`, or the copies at the live nodes of the latest placement
unfoldable pub holders_text : List (List ℕ) → World → ℕ → List ℕ
holders_text names w x =
    if is_lost w x
    then codes "lost" ++ named_object names x ++ line_end
    else copy_lines names w x (live_among w (latest_place w x).replicas)

-- `object NAME OWNER REPLICAS`, by the latest placement, and then its holders
abbrev pub object_text : List (List ℕ) → World → ℕ → List ℕ
object_text names w x =
    codes "object" ++ named_object names x ++ optional_node (owner w x) ++ word (nodes_text (latest_place w x).replicas) ++ line_end
    ++ holders_text names w x

unfoldable pub objects_text : List (List ℕ) → World → List ℕ → List ℕ
objects_text names w [] = []
objects_text names w (x ∷ xs) = object_text names w x ++ objects_text names w xs

-- how a world stands: its history, its transactions, its objects and their copies
abbrev pub final_text : List (List ℕ) → World → List ℕ
final_text names w =
    history_line w.book ++ tx_state_lines w (below (length w.txs)) ++ objects_text names w (below (length w.config.objects))
    ++ codes "end" ++ line_end

-- the first line names the version
abbrev pub report_head : ℕ → List ℕ
report_head version = codes "report" ++ number version ++ line_end

-- the world that a script starts in
abbrev pub start_of : Script → World
start_of s = start s.config s.txs

-- the report of a script
unfoldable pub report : Script → List ℕ
report s =
    report_head s.config.version ++ steps_text s.names (start_of s) 0 s.steps
    ++ final_text s.names (run (start_of s) s.steps)
