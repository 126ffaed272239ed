-- The shapes of the lines of a report, word by word.
use Rattle.std.specs.Prelude.{ℕ, Bool, true, false, ◌==◌, List, [], ◌∷◌, Option, Some, None, Result, Ok, Err, codes, if◌then◌else◌}
use Rattle.std.specs.Str.{bytes_eq}
use Rattle.zeus_packet.specs.declared.letter.State.{State}
use Rattle.zeus_packet.specs.declared.letter.State.TheVariants as states
use Rattle.zeus_model.specs.declared.answer.TxState.{TxState}
use Rattle.zeus_model.specs.declared.answer.TxState.TheVariants as tx_states
use Rattle.zeus_model.specs.declared.fault.Kind.{Kind}
use Rattle.zeus_model.specs.declared.fault.Kind.TheVariants.{Word}
use Rattle.zeus_audit.specs.declared.shapes.Printed.{Printed}
use Rattle.script_lang.specs.Cut.{cut}
use Rattle.script_lang.specs.NodeLists.{nodes_after}
use Rattle.script_lang.specs.Numbers.{number_at, range_at}
use Rattle.script_lang.specs.Reads.{◌>>=◌, word_at, word_if, keyword_at, ended}
use Rattle.script_lang.specs.Values.{value_at}

-- `ok`, or `failed` and a number
unfoldable pub outcome_at : List (List ℕ) → Result (Unit {0} × List (List ℕ)) Kind
outcome_at ws = do
  w ← word_at ws
  if bytes_eq w.0 (codes "ok") then Ok (tt, w.1) else
      (if bytes_eq w.0 (codes "failed") then (number_at w.1 >>= λ n. Ok (tt, n.1)) else Err Word)

-- values to the end of the line
unfoldable pub values_at : ℕ → List (List ℕ) → Result (Unit {0}) Kind
values_at version [] = Ok tt
values_at version (w ∷ ws) = value_at version (w ∷ ws) >>= λ v. values_at version ws

-- numbers to the end of the line
unfoldable pub numbers_at : List (List ℕ) → Result (Unit {0}) Kind
numbers_at [] = Ok tt
numbers_at (w ∷ ws) = number_at (w ∷ ws) >>= λ n. numbers_at ws

-- `* K REPLY`: its number
unfoldable pub point_shape : ℕ → List (List ℕ) → Result ℕ Kind
point_shape version ws = do
  star ← keyword_at (codes "*") ws
  k ← number_at star.1
  outcome ← outcome_at k.1
  values ← values_at version outcome.1
  Ok k.0

-- `! K`: its number
unfoldable pub ack_shape : List (List ℕ) → Result ℕ Kind
ack_shape ws = do
  mark ← keyword_at (codes "!") ws
  k ← number_at mark.1
  e ← ended k.1
  Ok k.0

-- `history` and numbers
unfoldable pub history_shape : List (List ℕ) → Result (Unit {0}) Kind
history_shape ws = keyword_at (codes "history") ws >>= λ h. numbers_at h.1

-- the state of a transaction that a word tells
unfoldable pub tx_state_of : List ℕ → Result TxState Kind
tx_state_of w =
    if bytes_eq w (codes "new") then Ok tx_states.New else
    (if bytes_eq w (codes "current") then Ok tx_states.Current else
    (if bytes_eq w (codes "pending") then Ok tx_states.Pending else
    (if bytes_eq w (codes "passed") then Ok tx_states.Passed else
    (if bytes_eq w (codes "acked") then Ok tx_states.Acked else
    (if bytes_eq w (codes "refused") then Ok tx_states.Refused else Err Word)))))

-- a word that does not fit, because the test fails
unfoldable pub expected : Bool → Result (Unit {0}) Kind
expected true = Ok tt
expected false = Err Word

-- `tx K STATE` of the transaction of number k: its state
unfoldable pub state_shape : ℕ → List (List ℕ) → Result TxState Kind
state_shape k ws = do
  tx ← keyword_at (codes "tx") ws
  n ← number_at tx.1
  same ← expected (n.0 == k)
  w ← word_at n.1
  state ← tx_state_of w.0
  e ← ended w.1
  Ok state

-- no node if the word was `-`, else the node that the next word names
unfoldable pub owner_of : ℕ → Bool × List (List ℕ) → Result (Option ℕ × List (List ℕ)) Kind
owner_of nodes (true, ws) = Ok (None, ws)
owner_of nodes (false, ws) = range_at 0 nodes ws >>= λ n. Ok (Some n.0, n.1)

-- a node, or `-` if there is none
unfoldable pub owner_at : ℕ → List (List ℕ) → Result (Option ℕ × List (List ℕ)) Kind
owner_at nodes ws = owner_of nodes (word_if (codes "-") ws)

-- no node if the word was `-`, else the rising nodes that the next word names
unfoldable pub replicas_of : ℕ → Bool × List (List ℕ) → Result (List ℕ × List (List ℕ)) Kind
replicas_of nodes (true, ws) = Ok ([], ws)
replicas_of nodes (false, ws) = do
  w ← word_at ws
  ns ← nodes_after nodes None None [] 0 (cut 44 w.0)
  Ok (ns, w.1)

-- rising nodes with commas between them, or `-` if there is none
unfoldable pub replicas_at : ℕ → List (List ℕ) → Result (List ℕ × List (List ℕ)) Kind
replicas_at nodes ws = replicas_of nodes (word_if (codes "-") ws)

-- `object NAME OWNER REPLICAS` of the object of this name: its owner and its replicas
unfoldable pub object_shape : ℕ → List ℕ → List (List ℕ) → Result (Option ℕ × List ℕ) Kind
object_shape nodes name ws = do
  object ← keyword_at (codes "object") ws
  named ← keyword_at name object.1
  owner ← owner_at nodes named.1
  replicas ← replicas_at nodes owner.1
  e ← ended replicas.1
  Ok (owner.0, replicas.0)

-- `lost NAME` of the object of this name
unfoldable pub lost_shape : List ℕ → List (List ℕ) → Result (Unit {0}) Kind
lost_shape name ws = do
  lost ← keyword_at (codes "lost") ws
  named ← keyword_at name lost.1
  ended named.1

-- the state of a copy that a word tells
unfoldable pub copy_state_of : List ℕ → Result State Kind
copy_state_of w =
    if bytes_eq w (codes "valid") then Ok states.Valid else
    (if bytes_eq w (codes "invalid") then Ok states.Invalid else
    (if bytes_eq w (codes "write") then Ok states.Write else Err Word))

-- `copy NAME NODE STATE VERSION VALUE` of the object of this name
unfoldable pub copy_shape : ℕ → ℕ → List ℕ → List (List ℕ) → Result Printed Kind
copy_shape nodes version name ws = do
  copy ← keyword_at (codes "copy") ws
  named ← keyword_at name copy.1
  node ← range_at 0 nodes named.1
  w ← word_at node.1
  state ← copy_state_of w.0
  ver ← number_at w.1
  value ← value_at version ver.1
  e ← ended value.1
  Ok record { node = node.0; state = state; ver = ver.0; value = value.0 }
