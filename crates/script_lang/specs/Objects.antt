-- Objects as lines.
use Rattle.std.specs.Prelude.{ℕ, List, [], Option, Some, None, Result, Ok, Err}
use Rattle.zeus_base.specs.Nodes.{with_node}
use Rattle.zeus_base.specs.declared.config.ObjectDecl.{ObjectDecl}
use Rattle.zeus_model.specs.declared.fault.Kind.{Kind}
use Rattle.zeus_model.specs.declared.fault.Kind.TheVariants.{Twice}
use Rattle.script_lang.specs.Reads.{◌>>=◌, word_at}
use Rattle.script_lang.specs.Numbers.{range_at}
use Rattle.script_lang.specs.Names.{name_of_word, find}
use Rattle.script_lang.specs.Values.{value_at}
use Rattle.script_lang.specs.NodeLists.{nodes_after}

-- nothing is there yet
abbrev pub vacant : Option ℕ → Result (Unit {0}) Kind
vacant None = Ok tt
vacant (Some place) = Err Twice

-- the new name of a word
unfoldable pub new_name_of : List (List ℕ) → List ℕ → Result (List ℕ) Kind
new_name_of names w = do
  name ← name_of_word w
  new ← vacant (find names name)
  Ok name

-- the words behind `object`: a new name, a value, the owner, and further replicas
unfoldable pub object_at : ℕ → ℕ → List (List ℕ) → List (List ℕ) → Result (List ℕ × ObjectDecl) Kind
object_at version nodes names ws = do
  w ← word_at ws
  name ← new_name_of names w.0
  value ← value_at version w.1
  owner ← range_at 0 nodes value.1
  others ← nodes_after nodes None (Some owner.0) [] 0 owner.1
  Ok (name, record { value = value.0; owner = owner.0; replicas = with_node owner.0 others })
