-- What the lines of a report say, read without the script's machine: an event for each line.
use Rattle.std.specs.Prelude.{◌≡◌, ℕ, false, List, [], ◌∷◌, ◌++◌, codes, decimal}
use Rattle.zeus_base.specs.declared.step.Step.TheVariants as steps
use Rattle.zeus_txn.specs.declared.reply.Reply.{Reply}
use Rattle.zeus_model.specs.ReportWords.{state_text, tx_state_text}
use Rattle.zeus_model.specs.Spelling.{words_text, value_text, name_of}
use Rattle.zeus_model.specs.declared.answer.TxState.{TxState}
use Rattle.zeus_model.specs.declared.script.Script.{Script}
use Rattle.zeus_model.specs.declared.state.Copy.{Copy}
use Rattle.zeus_audit.specs.Rules.{begins}
use Rattle.zeus_audit.specs.Texts.{step_head, point_text, history_text}

-- what a line says: nothing of these; that a transaction was begun; its point and its reply; its acknowledgement; the list
-- of all points; how a transaction stands; or the copy of an object at a node
pub data Event : Type 0 where
  Quiet : Event
  Begun : ℕ → Event
  Point : ℕ → Reply → Event
  Acked : ℕ → Event
  History : List ℕ → Event
  Stands : ℕ → TxState → Event
  Copied : ℕ → ℕ → Copy → Event

-- `! K`
abbrev pub ack_text : ℕ → List ℕ
ack_text k = words_text (codes "!" ∷ decimal k ∷ [])

-- `tx K STATE`
abbrev pub stands_text : ℕ → TxState → List ℕ
stands_text k state = words_text (codes "tx" ∷ decimal k ∷ tx_state_text state ∷ [])

-- `copy NAME NODE STATE VERSION VALUE`
abbrev pub copy_text : List ℕ → ℕ → Copy → List ℕ
copy_text name n c = words_text (codes "copy" ∷ name ∷ decimal n ∷ state_text c.state ∷ decimal c.ver ∷ value_text c.value ∷ [])

-- the text of the line says the event; no line with a point, an acknowledgement or a copy is quiet
unfoldable pub Says : Script → List ℕ → Event → Type 0
Says s line Quiet = (begins (codes "* ") line ≡ false) × (begins (codes "! ") line ≡ false) × (begins (codes "copy ") line ≡ false)
Says s line (Begun k) = (i : ℕ) × (line ≡ step_head i (steps.Begin k) ++ codes "begun")
Says s line (Point k reply) = line ≡ point_text k reply
Says s line (Acked k) = line ≡ ack_text k
Says s line (History ks) = line ≡ history_text ks
Says s line (Stands k state) = line ≡ stands_text k state
Says s line (Copied x n c) = line ≡ copy_text (name_of s.names x) n c

-- each line says its event
unfoldable pub SayAll : Script → List (List ℕ) → List Event → Type 0
SayAll s [] [] = Unit {0}
SayAll s [] (e ∷ es) = ⊥
SayAll s (l ∷ ls) [] = ⊥
SayAll s (l ∷ ls) (e ∷ es) = Says s l e × SayAll s ls es

-- the transactions that have a point, in order
unfoldable pub points_of : List Event → List ℕ
points_of [] = []
points_of (Point k reply ∷ es) = k ∷ points_of es
points_of (_ ∷ es) = points_of es

-- the replies, in order
unfoldable pub replies_of : List Event → List Reply
replies_of [] = []
replies_of (Point k reply ∷ es) = reply ∷ replies_of es
replies_of (_ ∷ es) = replies_of es
