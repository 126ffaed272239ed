-- The fault of bytes that spell no script, without a word of how they are read.
use Rattle.std.specs.Prelude.{◌≡◌, ◌≢◌, ℕ, Bool, List}
use Rattle.zeus_model.specs.Faults.{IsOfWord, IsWordFault}
use Rattle.zeus_model.specs.FirstFault.{IsFirstFault, IsKindOfLine, TellsSize}
use Rattle.zeus_model.specs.Scripts.{IsSpelled}
use Rattle.zeus_model.specs.declared.fault.ScriptFault.{ScriptFault}
use Rattle.zeus_model.specs.declared.script.Script.{Script}
use Rattle.script_lang.specs.Live.{FitsLive, opening}

-- bytes spell a script, with `live` one of a live run
pub record SpellsScript (live : Bool) (bytes : List ℕ) : Type 0 where
  pub script : Script
  pub spelled : IsSpelled bytes script
  pub runs : FitsLive live script

-- the fault of bytes: line 0 and the kind of the size for too many of them, and else the first line up to which the lines
-- begin no script. Its kind is that of the line as a whole, or the first row that is met by the first word that does not fit
pub record IsFaultOf (live : Bool) (bytes : List ℕ) (f : ScriptFault) : Type 0 where
  pub size : TellsSize bytes f
  pub first : f.line ≢ 0 → IsFirstFault (FitsLive live) bytes f.line
  pub kind : f.line ≢ 0 → IsKindOfLine (FitsLive live) bytes f.line f.kind
  pub word : IsOfWord f.kind → IsWordFault (opening live) bytes f.line f.kind

-- there is one fault of the bytes, and no other
pub record HasOneFault (live : Bool) (bytes : List ℕ) : Type 0 where
  pub fault : ScriptFault
  pub is : IsFaultOf live bytes fault
  pub one : (f : ScriptFault) → IsFaultOf live bytes f → f ≡ fault
