-- What words ask the program for.
use Rattle.std.specs.Prelude.{ℕ, ◌≡◌, ◌≢◌, List, [], ◌∷◌, codes, decimal, drop, map, string_bytes, Option, Some, None, Result, Ok, Err, String}
use Rattle.std.specs.Vec.Iter.{into_iter_items}
use Rattle.std.specs.declared.vec.IntoIter.{IntoIter}
use Rattle.storm.specs.Numbers.{AreInRange}
use Rattle.storm.specs.declared.numbers.StormNumbers.{StormNumbers}
use Rattle.zeus_cli.specs.declared.command.Command.{Command}
use Rattle.zeus_cli.specs.declared.command.Command.TheVariants.{Run, Lease, Audit, Storm}

-- NODES SLOTS OBJECTS TXS STEPS LOSS STOPS START
abbrev pub storm_numbers : StormNumbers → List (List ℕ)
storm_numbers n =
    decimal n.nodes ∷ decimal n.slots ∷ decimal n.objects ∷ decimal n.txs ∷ decimal n.steps
    ∷ decimal n.loss ∷ decimal n.stops ∷ decimal n.start ∷ []

-- the words of a command
abbrev pub command_words : Command → List (List ℕ)
command_words Run = codes "run" ∷ []
command_words Lease = codes "lease" ∷ []
command_words Audit = codes "audit" ∷ []
command_words (Storm n) = codes "storm" ∷ storm_numbers n

-- the numbers of a command are in their ranges
abbrev pub IsCommand : Command → Type 0
IsCommand Run = Unit {0}
IsCommand Lease = Unit {0}
IsCommand Audit = Unit {0}
IsCommand (Storm n) = AreInRange n

-- words ask for the command whose words they are, and for nothing if they are those of none
abbrev pub Asks : List (List ℕ) → Option Command → Type 0
Asks words None = (c : Command) → IsCommand c → words ≢ command_words c
Asks words (Some c) = IsCommand c × (words ≡ command_words c)

-- the same of the arguments: the words behind the program's own name; arguments that are no texts ask for nothing
abbrev pub AsksBy : {A E : Type 0} → Result (IntoIter (String A) A) E → Option Command → Type 0
AsksBy (Ok args) c = Asks (map string_bytes (drop 1 (into_iter_items args))) c
AsksBy (Err e) c = c ≡ None

-- the command reads the source
abbrev pub Reads : Command → Type 0
Reads Run = Unit {0}
Reads Lease = Unit {0}
Reads Audit = Unit {0}
Reads (Storm n) = ⊥

-- the words are those of a command that reads the source
pub record AsksInput (words : List (List ℕ)) : Type 0 where
  pub command : Command
  pub reads : Reads command
  pub asked : words ≡ command_words command

abbrev pub AsksInputBy : {A E : Type 0} → Result (IntoIter (String A) A) E → Type 0
AsksInputBy (Ok args) = AsksInput (map string_bytes (drop 1 (into_iter_items args)))
AsksInputBy (Err e) = ⊥
