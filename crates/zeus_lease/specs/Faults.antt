-- The fault of bytes that spell no script of leases, without a word of how they are read.
use Rattle.std.specs.Prelude.{◌≡◌, ◌≢◌, ◌<◌, ◌-◌, ℕ, List, [], take, Some, None}
use Rattle.script_lang.specs.Texts.{IsFirstFaultyLine, IsKindOfFaultyLine}
use Rattle.zeus_model.specs.Faults.{IsOfWord, lines_of, word_of}
use Rattle.zeus_model.specs.FirstFault.{TellsSize}
use Rattle.zeus_model.specs.Tables.{nth}
use Rattle.zeus_model.specs.declared.fault.Kind.{Kind}
use Rattle.zeus_model.specs.declared.fault.ScriptFault.{ScriptFault}
use Rattle.zeus_lease.specs.declared.script.LeaseScript.{LeaseScript}
use Rattle.zeus_lease.specs.Places.{Said, row, said}
use Rattle.zeus_lease.specs.Scripts.{FitsScript, IsSpelled, spelling}

-- bytes spell a script
pub record SpellsScript (bytes : List ℕ) : Type 0 where
  pub script : LeaseScript
  pub spelled : IsSpelled bytes script

-- bytes are the whole text of a script, however long
pub record IsScriptText (bytes : List ℕ) : Type 0 where
  pub script : LeaseScript
  pub fits : FitsScript script
  pub spelled : bytes ≡ spelling script

-- word j is the first of its line that does not fit, and this is the first row that it meets
pub record IsFaultyWord (d : Said) (ws : List (List ℕ)) (j : ℕ) (kind : Kind) : Type 0 where
  pub fit : (i : ℕ) → i < j → row d (take i ws) (word_of ws i) ≡ None
  pub faulty : row d (take j ws) (word_of ws j) ≡ Some kind

-- line n, counted from 1, has a first word that does not fit, by what the lines before it say, and this is the first row
-- that it meets
pub record IsWordFault (bytes : List ℕ) (n : ℕ) (kind : Kind) : Type 0 where
  pub index : ℕ
  pub word : IsFaultyWord (said (take (n - 1) (lines_of bytes))) (nth [] (lines_of bytes) (n - 1)) index kind

-- the fault of bytes: line 0 and the kind of the size for too many of them, and else the first line up to which the lines
-- begin no script. Its kind is that of the line as a whole, or the first row that is met by the first word that does not fit
pub record IsFaultOf (bytes : List ℕ) (f : ScriptFault) : Type 0 where
  pub size : TellsSize bytes f
  pub first : f.line ≢ 0 → IsFirstFaultyLine IsScriptText bytes f.line
  pub kind : f.line ≢ 0 → IsKindOfFaultyLine IsScriptText bytes f.line f.kind
  pub word : IsOfWord f.kind → IsWordFault bytes f.line f.kind

-- there is one fault of the bytes, and no other
pub record HasOneFault (bytes : List ℕ) : Type 0 where
  pub fault : ScriptFault
  pub is : IsFaultOf bytes fault
  pub one : (f : ScriptFault) → IsFaultOf bytes f → f ≡ fault
