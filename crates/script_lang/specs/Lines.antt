-- The single lines of a script, and operations behind each other.
use Rattle.std.specs.Prelude.{ℕ, List, [], ◌∷◌, ◌++◌, codes, decimal, map}
use Rattle.zeus_base.specs.declared.config.ObjectDecl.{ObjectDecl}
use Rattle.zeus_base.specs.declared.step.Step.{Step}
use Rattle.zeus_txn.specs.declared.ops.Op.{Op}
use Rattle.zeus_txn.specs.declared.tx.TxDecl.{TxDecl}
use Rattle.zeus_model.specs.Spelling.{word, spaced, words_text, after_words, op_words, tx_words, object_words, step_words}

-- words with one space between, and the end of the line
abbrev pub line_text : List (List ℕ) → List ℕ
line_text l = words_text l ++ 10 ∷ []

-- a word and a number
abbrev pub number_line : List ℕ → ℕ → List ℕ
number_line w n = line_text (w ∷ decimal n ∷ [])

-- `directory` and its nodes
abbrev pub directory_line : List ℕ → List ℕ
directory_line nodes = line_text (codes "directory" ∷ map decimal nodes)

-- an object
abbrev pub object_line : List ℕ → ObjectDecl → List ℕ
object_line name o = line_text (object_words name o)

-- a transaction but for its operations: its node, its slot, and what it waits for
abbrev pub tx_head : TxDecl → List ℕ
tx_head t = codes "tx" ++ word (decimal t.node) ++ word (decimal t.slot) ++ spaced (after_words t.after)

-- a transaction
abbrev pub tx_line : List (List ℕ) → TxDecl → List ℕ
tx_line names t = line_text (tx_words names t)

-- a step
abbrev pub step_line : Step → List ℕ
step_line s = line_text (step_words s)

-- an operation, each of its words behind a space
abbrev pub op_text : List (List ℕ) → Op → List ℕ
op_text names op = spaced (op_words names op)

-- a further operation behind its semicolon
abbrev pub more_op_text : List (List ℕ) → Op → List ℕ
more_op_text names op = codes " ;" ++ op_text names op
