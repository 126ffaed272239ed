-- The one text of a script: its lines, and in each line its words with one space between.
use Rattle.std.specs.Prelude.{ℕ, List, [], ◌∷◌, ◌++◌, map, codes, decimal, Option, Some, None}
use Rattle.zeus_base.specs.Nodes.{without}
use Rattle.zeus_base.specs.declared.config.Config.{Config}
use Rattle.zeus_base.specs.declared.config.ObjectDecl.{ObjectDecl}
use Rattle.zeus_base.specs.declared.step.Step.{Step}
use Rattle.zeus_base.specs.declared.step.Step.TheVariants.{Begin, Try, Deliver, Tick, Stop, View, Install}
use Rattle.zeus_base.specs.declared.value.Value.{Value}
use Rattle.zeus_base.specs.declared.value.Value.TheVariants.{Num, Text}
use Rattle.zeus_txn.specs.declared.ops.Op.{Op}
use Rattle.zeus_txn.specs.declared.ops.Op.TheVariants.{Get, Put, Add, Need, Same}
use Rattle.zeus_txn.specs.declared.tx.TxDecl.{TxDecl}
use Rattle.zeus_model.specs.declared.script.Script.{Script}
use Rattle.zeus_model.specs.Tables.{nth}

-- a space, byte 32, and then the word
abbrev pub word : List ℕ → List ℕ
word w = 32 ∷ w

-- words with a space before each
unfoldable pub spaced : List (List ℕ) → List ℕ
spaced [] = []
spaced (w ∷ ws) = word w ++ spaced ws

-- words with one space between each two
unfoldable pub words_text : List (List ℕ) → List ℕ
words_text [] = []
words_text (w ∷ ws) = w ++ spaced ws

-- lines of words, each ended by byte 10
unfoldable pub lines_text : List (List (List ℕ)) → List ℕ
lines_text [] = []
lines_text (l ∷ ls) = words_text l ++ 10 ∷ [] ++ lines_text ls

-- a value is a decimal number, or `'` and the bytes of a text
unfoldable pub value_text : Value → List ℕ
value_text (Num n) = decimal n
value_text (Text bytes) = 39 ∷ bytes

-- the name of an object
abbrev pub name_of : List (List ℕ) → ℕ → List ℕ
name_of names x = nth [] names x

-- an operation is its keyword, the name of its object, and its number or value
unfoldable pub op_words : List (List ℕ) → Op → List (List ℕ)
op_words names (Get x) = codes "get" ∷ name_of names x ∷ []
op_words names (Put x v) = codes "put" ∷ name_of names x ∷ value_text v ∷ []
op_words names (Add x n) = codes "add" ∷ name_of names x ∷ decimal n ∷ []
op_words names (Need x n) = codes "need" ∷ name_of names x ∷ decimal n ∷ []
op_words names (Same x v) = codes "same" ∷ name_of names x ∷ value_text v ∷ []

-- further operations, each behind a semicolon that is a word of its own
unfoldable pub more_op_words : List (List ℕ) → List Op → List (List ℕ)
more_op_words names [] = []
more_op_words names (op ∷ ops) = codes ";" ∷ op_words names op ++ more_op_words names ops

-- the operations of a transaction
unfoldable pub tx_op_words : List (List ℕ) → List Op → List (List ℕ)
tx_op_words names [] = []
tx_op_words names (op ∷ ops) = op_words names op ++ more_op_words names ops

-- `after` and the number of the transaction that is waited for
unfoldable pub after_words : Option ℕ → List (List ℕ)
after_words None = []
after_words (Some k) = codes "after" ∷ decimal k ∷ []

-- a transaction: `tx`, its node and slot, what it waits for, and its operations
unfoldable pub tx_words : List (List ℕ) → TxDecl → List (List ℕ)
tx_words names t =
    codes "tx" ∷ decimal t.node ∷ decimal t.slot ∷ after_words t.after ++ tx_op_words names t.tx

-- an object: `object`, its name, value and owner, and its further replicas in rising order
unfoldable pub object_words : List ℕ → ObjectDecl → List (List ℕ)
object_words name o =
    codes "object" ∷ name ∷ value_text o.value ∷ decimal o.owner ∷ map decimal (without o.owner o.replicas)

-- a step: its keyword and its numbers
unfoldable pub step_words : Step → List (List ℕ)
step_words (Begin k) = codes "begin" ∷ decimal k ∷ []
step_words (Try n s) = codes "try" ∷ decimal n ∷ decimal s ∷ []
step_words (Deliver sender receiver i) = codes "deliver" ∷ decimal sender ∷ decimal receiver ∷ decimal i ∷ []
step_words (Tick n) = codes "tick" ∷ decimal n ∷ []
step_words (Stop n) = codes "stop" ∷ decimal n ∷ []
step_words (View nodes) = codes "view" ∷ map decimal nodes
step_words (Install n e) = codes "install" ∷ decimal n ∷ decimal e ∷ []

-- the line of the degree, where one is given
unfoldable pub degree_lines : Option ℕ → List (List (List ℕ))
degree_lines None = []
degree_lines (Some d) = (codes "degree" ∷ decimal d ∷ []) ∷ []

-- the first lines: version, nodes, slots, directory and degree
unfoldable pub head_lines : Config → List (List (List ℕ))
head_lines c =
    (codes "zeus" ∷ decimal c.version ∷ [])
    ∷ (codes "nodes" ∷ decimal c.nodes ∷ [])
    ∷ (codes "slots" ∷ decimal c.slots ∷ [])
    ∷ (codes "directory" ∷ map decimal c.directory)
    ∷ degree_lines c.degree

-- a line for each object, by its number
unfoldable pub object_lines : List (List ℕ) → List ObjectDecl → List (List (List ℕ))
object_lines [] os = []
object_lines (n ∷ ns) [] = []
object_lines (n ∷ ns) (o ∷ os) = object_words n o ∷ object_lines ns os

-- the lines of a script: the head, the objects, the transactions, `run`, the steps, and `end`
unfoldable pub script_lines : Script → List (List (List ℕ))
script_lines s =
    head_lines s.config ++ object_lines s.names s.config.objects ++ map (tx_words s.names) s.txs
    ++ (codes "run" ∷ []) ∷ [] ++ map step_words s.steps ++ (codes "end" ∷ []) ∷ []

-- the text of a script
unfoldable pub spelling : Script → List ℕ
spelling s = lines_text (script_lines s)
