-- The operations of a transaction, with a semicolon between each two.
use Rattle.std.specs.Prelude.{ℕ, zero, suc, ◌&&◌, ◌==◌, List, [], ◌∷◌, ◌++◌, Option, Some, None, Result, Ok, Err, codes, length, if◌then◌else◌}
use Rattle.std.specs.Str.{bytes_eq}
use Rattle.zeus_txn.specs.declared.ops.Op.{Op}
use Rattle.zeus_txn.specs.declared.ops.Op.TheVariants as ops
use Rattle.script_lang.specs.Gathered.{takes_object}
use Rattle.zeus_model.specs.declared.fault.Kind.{Kind}
use Rattle.zeus_model.specs.declared.fault.Kind.TheVariants.{Word, Unknown, Long}
use Rattle.script_lang.specs.declared.keywords.OpWord.{OpWord}
use Rattle.script_lang.specs.declared.keywords.OpWord.TheVariants as words
use Rattle.script_lang.specs.Reads.{◌>>=◌, or_fault, word_at}
use Rattle.script_lang.specs.Numbers.{number_at}
use Rattle.script_lang.specs.Names.{name_of_word, find}
use Rattle.script_lang.specs.Values.{value_at}

-- the word of an operation; `same` from version 2 on
unfoldable pub op_word_of : ℕ → List ℕ → Option OpWord
op_word_of version w =
    if bytes_eq w (codes "get") then Some words.Get else
    (if bytes_eq w (codes "put") then Some words.Put else
    (if bytes_eq w (codes "add") then Some words.Add else
    (if bytes_eq w (codes "need") then Some words.Need else
    (if bytes_eq w (codes "same") && (version == 2) then Some words.Same else None))))

-- the declared object of a word
unfoldable pub object_of_word : List (List ℕ) → List Op → List ℕ → Result ℕ Kind
object_of_word names before w = do
  name ← name_of_word w
  x ← or_fault (find names name) Unknown
  if takes_object before x then Ok x else Err Long

-- the rest of an operation on an object
unfoldable pub operand_at : ℕ → OpWord → ℕ → List (List ℕ) → Result (Op × List (List ℕ)) Kind
operand_at version words.Get x ws = Ok (ops.Get x, ws)
operand_at version words.Put x ws = value_at version ws >>= λ v. Ok (ops.Put x v.0, v.1)
operand_at version words.Add x ws = number_at ws >>= λ n. Ok (ops.Add x n.0, n.1)
operand_at version words.Need x ws = number_at ws >>= λ n. Ok (ops.Need x n.0, n.1)
operand_at version words.Same x ws = value_at version ws >>= λ v. Ok (ops.Same x v.0, v.1)

-- the object and the rest of an operation, behind these operations
unfoldable pub op_rest_at : ℕ → List (List ℕ) → List Op → OpWord → List (List ℕ) → Result (Op × List (List ℕ)) Kind
op_rest_at version names before k ws = do
  w ← word_at ws
  x ← object_of_word names before w.0
  operand_at version k x w.1

-- an operation behind these, of which there are at most 16
unfoldable pub op_at : ℕ → List (List ℕ) → List Op → List (List ℕ) → Result (Op × List (List ℕ)) Kind
op_at version names before ws = do
  w ← word_at ws
  k ← or_fault (op_word_of version w.0) Word
  if length before == 16 then Err Long else op_rest_at version names before k w.1

-- further operations behind these, each behind a semicolon, to the end of the line; with room for so many
unfoldable pub ops_after : ℕ → List (List ℕ) → ℕ → List Op → List (List ℕ) → Result (List Op) Kind
ops_after version names room before [] = Ok before
ops_after version names zero before (w ∷ ws) =
    if bytes_eq w (codes ";") then (op_at version names before ws >>= λ o. Err Long) else Err Word
ops_after version names (suc room) before (w ∷ ws) =
    if bytes_eq w (codes ";") then (op_at version names before ws >>= λ o. ops_after version names room (before ++ o.0 ∷ []) o.1) else Err Word

-- the operations of a transaction, one at least
unfoldable pub ops_at : ℕ → List (List ℕ) → List (List ℕ) → Result (List Op) Kind
ops_at version names ws = op_at version names [] ws >>= λ o. ops_after version names 15 (o.0 ∷ []) o.1
