-- What the lines of a report say of the history of its run.
use Rattle.std.specs.Prelude.{ℕ, ◌≡◌, ◌<◌, ◌≤◌, ◌^◌, All, IfSome, true, List, [], ◌∷◌, ◌++◌, map, codes, Some, is_some, ◌↔◌}
use Rattle.zeus_model.specs.declared.script.Script.{Script}
use Rattle.zeus_model.specs.Book.{Point, record_of}
use Rattle.zeus_model.specs.In.{In}
use Rattle.zeus_model.specs.ReportText.{points_text, start_of}
use Rattle.zeus_model.specs.ReportWords.{number, reply_text}
use Rattle.zeus_model.specs.Scripts.{FitsValue}
use Rattle.zeus_model.specs.Spelling.{word}
use Rattle.zeus_model.specs.World.{World, events, run}
use Rattle.soundness.specs.Telling.{Answers, how_often, told_acks}
use Rattle.printed_history.specs.Lines.{lines_with}

-- `* K REPLY`
abbrev pub printed_point : Point → List ℕ
printed_point p = codes "*" ++ number p.id ++ word (reply_text p.reply)

-- a point whose numbers are of 64 bits, and whose texts are those of a script
pub record FitsPoint (p : Point) : Type 0 where
  pub id : p.id < 2 ^ 64
  pub place : IfSome p.reply.failed (λ place. place < 2 ^ 64)
  pub values : All (FitsValue 2) p.reply.values

-- `! K`
abbrev pub printed_ack : ℕ → List ℕ
printed_ack k = codes "!" ++ number k

-- `history K ..`
abbrev pub printed_history : List Point → List ℕ
printed_history ps = codes "history" ++ points_text ps

-- the world that the steps of a script lead to
abbrev pub end_of : Script → World
end_of s = run (start_of s) s.steps

-- the text prints the history of the script's run
pub record PrintsHistory (s : Script) (text : List ℕ) : Type 0 where
  -- its lines that begin with `*` (byte 42) are the points of the history, in order, each with its reply
  pub points : lines_with 42 text ≡ map printed_point (end_of s).book.points
  -- that reply is the one that the transaction's record keeps, and that a step answered as committed or as read
  pub replies : (p : Point) → In p (end_of s).book.points
      → ((record_of (end_of s).book p.id).reply ≡ Some p.reply) × ((k : ℕ) × Answers (start_of s) s.steps k p.id p.reply)
  -- and who reads such a line as a point reads this one
  pub readable : (p q : Point) → In p (end_of s).book.points → FitsPoint q → printed_point q ≡ printed_point p → q ≡ p
  -- its lines that begin with `!` (byte 33) are what the steps acknowledge, in order
  pub acks : lines_with 33 text ≡ map printed_ack (told_acks (events (start_of s) s.steps))
  -- each acknowledged transaction is there once, and no other is there
  pub acked_once : (id : ℕ) → how_often id (told_acks (events (start_of s) s.steps)) ≤ 1
  pub acked : (id : ℕ) → (is_some (record_of (end_of s).book id).acked ≡ true) ↔ In id (told_acks (events (start_of s) s.steps))
  -- its one line that begins with `h` (byte 104) lists the transactions of the history, in order
  pub history : lines_with 104 text ≡ printed_history (end_of s).book.points ∷ []
