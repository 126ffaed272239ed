-- What a language of lines has to keep, so that reading its lines one after another finds its texts and their faults.
use Rattle.std.proofs.Common.{◌≡◌, ℕ, Bool, true, false, List, [], ◌∷◌, ◌++◌, Result, Ok}
use Rattle.std.specs.Prelude.{map}
use Rattle.std.specs.List.{AllByRecursion}
use Rattle.zeus_model.specs.Spelling.{words_text, lines_text}
use Rattle.zeus_model.specs.declared.fault.Kind.{Kind}
use Rattle.script_lang.specs.Following.{followed}
use Rattle.script_lang.proofs.Sound.{IfRead}
use Rattle.script_lang.proofs.TextComplete.{IsLine}
use Rattle.script_lang.proofs.faults.WordKinds.{BlamesWord}

-- lines of words
abbrev pub Lines : Type 0
Lines = List (List (List ℕ))

-- the parts of lines that are each ended
abbrev pub parts_of : Lines → List (List ℕ)
parts_of ls = map words_text ls ++ [] ∷ []

-- what a line does: it adds itself to what was read, or it ends the whole
abbrev pub Goes : {S : Type 0} → (S → Type 0) → (S → Type 0) → (S → Lines) → (S → Lines) → S → List (List ℕ) → Bool × S → Type 0
Goes Fits Whole lines all s ws (false, t) = Fits t × (lines t ≡ lines s ++ ws ∷ [])
Goes Fits Whole lines all s ws (true, t) = Whole t × (all t ≡ lines s ++ ws ∷ [])

-- lines that make a whole of what was read
pub record Completes {S : Type 0} (Whole : S → Type 0) (lines all : S → Lines) (s : S) : Type 0 where
  pub ls : Lines
  pub whole : S
  pub is : Whole whole
  pub made : all whole ≡ lines s ++ ls

-- the text of a whole
pub record IsTextOf {S : Type 0} (Whole : S → Type 0) (all : S → Lines) (bytes : List ℕ) : Type 0 where
  pub whole : S
  pub is : Whole whole
  pub spelled : bytes ≡ lines_text (all whole)

-- `Fits` holds of what was read, `Whole` of a whole text; `lines` are the lines so far, `all` those of a whole
pub record Language {S : Type 0} (Fits Whole : S → Type 0) (lines all : S → Lines) (taken : S → List (List ℕ) → Result (Bool × S) Kind) (start : S) (IsText : List ℕ → Type 0) : Type 0 where
  pub starts : Fits start
  pub no_lines : lines start ≡ []
  pub goes : (s : S) (ws : List (List ℕ)) → Fits s → IfRead (taken s ws) (Goes Fits Whole lines all s ws)
  pub completes : (s : S) → Fits s → Completes Whole lines all s
  pub are : (t : S) → Whole t → AllByRecursion IsLine (all t)
  pub read : (t : S) → Whole t → followed taken start 1 (parts_of (all t)) ≡ Ok t
  pub blames : (s : S) (ws : List (List ℕ)) → BlamesWord (taken s ws)
  pub is_text : (bytes : List ℕ) → IsTextOf Whole all bytes → IsText bytes
  pub of_text : (bytes : List ℕ) → IsText bytes → IsTextOf Whole all bytes
