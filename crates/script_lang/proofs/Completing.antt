-- Lines that are taken can always be gone on with to a whole script.
use Rattle.std.proofs.Common.{◌≡◌, ℕ, zero, suc, ◌≤◌, Bool, true, false, List, [], ◌∷◌, ◌++◌, length, None, Some, Ok, refl, ap, ◌∙◌, arith, append_assoc, inl, inr}
use Rattle.std.specs.Prelude.{codes, decimal, map, ◌==◌}
use Rattle.std.proofs.lemmas.Bool.Decides.{nat_tests}
use Rattle.std.proofs.lemmas.List.Elements.{All-from_recursion}
use Rattle.zeus_base.specs.Limits.{KeepsDeclaration}
use Rattle.zeus_base.specs.Nodes.{has}
use Rattle.zeus_base.specs.NodeLaws.{RisesFrom, IsBelow}
use Rattle.zeus_base.specs.Values.{is_num}
use Rattle.zeus_base.specs.declared.config.ObjectDecl.{ObjectDecl}
use Rattle.zeus_base.specs.declared.value.Value.TheVariants.{Num}
use Rattle.zeus_model.specs.Names.{IsName, IsNameByte}
use Rattle.zeus_model.specs.Scripts.{FitsValue}
use Rattle.script_lang.specs.declared.stage.Stage.{Stage}
use Rattle.script_lang.specs.declared.stage.Stage.TheVariants as stages
use Rattle.script_lang.specs.Drafts.{State, version_of, version_taken, nodes_taken, slots_taken, directory_taken, object_taken, run_taken, tx_line_taken, object_line_taken, degree_line_taken, more, body_taken, line_taken}
use Rattle.script_lang.specs.Names.{find}
use Rattle.script_lang.specs.NodeLists.{nodes_after}
use Rattle.script_lang.specs.Reads.{word_at, keyword_at, ended}
use Rattle.script_lang.proofs.BodySound.{Goes, line_taken-sound}
use Rattle.script_lang.proofs.DraftFits.{HeadFits, BodyFits, Fits, lines_at, Adds}
use Rattle.script_lang.proofs.laws.NodeLaws.{nodes_after-nodes, HasRoom}
use Rattle.script_lang.proofs.laws.NumberLaws.{range_at-decimal}
use Rattle.script_lang.proofs.laws.ObjectLaws.{object_rest, object_at-object}
use Rattle.script_lang.proofs.Sound.{read_is}
use Rattle.script_lang.proofs.laws.StepLaws.{no_owner, none_below}

-- lines that make a whole script of what was read so far
pub record Completes (live : Bool) (stage : Stage) (s : State) : Type 0 where
  pub ls : List (List (List ℕ))
  pub whole : State
  pub fits : Fits live stages.Steps whole
  pub lines : lines_at stages.Steps whole ++ (codes "end" ∷ []) ∷ [] ≡ lines_at stage s ++ ls

-- one more line, and those behind it
with_line : (live : Bool) (stage : Stage) (s u : State) (ws : List (List ℕ)) → s.stage ≡ stage → Fits live stage s → line_taken live s stage ws ≡ Ok (false, u) → (Fits live u.stage u → Completes live u.stage u) → Completes live stage s
with_line live stage s u ws at fits taken go_on =
    let adds : Adds live stage s ws u = read_is (line_taken live s stage ws) (false, u) (Goes live stage s ws) taken (line_taken-sound live stage s ws at fits) in
    let rest = go_on adds.fits in
    record {
      ls = ws ∷ rest.ls;
      whole = rest.whole;
      fits = rest.fits;
      lines = rest.lines ∙ ap (λ (front : List (List (List ℕ))). front ++ rest.ls) adds.lines ∙ append_assoc (lines_at stage s) (ws ∷ []) rest.ls;
    }

from_steps : (live : Bool) (s : State) → Fits live stages.Steps s → Completes live stages.Steps s
from_steps live s fits = record { ls = (codes "end" ∷ []) ∷ []; whole = s; fits = fits; lines = refl }

from_txs : (live : Bool) (s : State) → s.stage ≡ stages.Txs → Fits live stages.Txs s → Completes live stages.Txs s
unfolding line_taken body_taken word_at more tx_line_taken run_taken ended
from_txs live s at fits = with_line live stages.Txs s (record s { stage = stages.Steps }) (codes "run" ∷ []) at fits refl (from_steps live (record s { stage = stages.Steps }))

from_some_objects : (live : Bool) (s : State) → s.stage ≡ stages.Objects → Fits live stages.Objects s → (length s.objects == 0) ≡ false → Completes live stages.Objects s
unfolding line_taken body_taken word_at more object_line_taken tx_line_taken run_taken ended
from_some_objects live s at fits some =
    with_line live stages.Objects s (record s { stage = stages.Steps }) (codes "run" ∷ []) at fits (rw some refl) (from_steps live (record s { stage = stages.Steps }))

-- ---- an object `a` with the value 0 at node 0

abbrev object_a : ObjectDecl
object_a = record { value = Num 0; owner = 0; replicas = 0 ∷ [] }

name_a : IsName (codes "a")
name_a = (omega arith, omega arith, inr (omega arith, omega arith), All-from_recursion IsNameByte (codes "a") (inr (inl (omega arith, omega arith)), tt))

value_a : (version : ℕ) → FitsValue version object_a.value
unfolding FitsValue
value_a version = omega arith

below_some : (nodes : ℕ) → 1 ≤ nodes → IsBelow nodes (0 ∷ [])
unfolding has
below_some nodes some zero h = some
below_some nodes some (suc k) h = absurd (grind (arith, nat_tests))

keeps_a : (version nodes : ℕ) → 1 ≤ nodes → KeepsDeclaration version nodes object_a
unfolding RisesFrom has is_num
keeps_a version nodes some = record {
  owner = some;
  rising = (omega arith, tt);
  replicas = below_some nodes some;
  own_copy = refl;
  number = λ v. refl;
}

-- with the object
abbrev with_a : State → State
with_a s = record s { stage = stages.Objects; names = s.names ++ codes "a" ∷ []; objects = s.objects ++ object_a ∷ [] }

object_a_taken : (s : State) → s.names ≡ [] → 1 ≤ s.head.nodes → s.head.nodes ≤ 8 → object_taken s (object_rest (codes "a") object_a) ≡ Ok (with_a s)
unfolding object_taken find
object_a_taken s none some few =
    let room : (length s.names == 256) ≡ false = ap (λ (ns : List (List ℕ)). length ns == 256) none in
    let new : find s.names (codes "a") ≡ None = ap (λ (ns : List (List ℕ)). find ns (codes "a")) none in
    rw (room, object_at-object s.head.version s.head.nodes s.names (codes "a") object_a few name_a new (value_a s.head.version) (keeps_a s.head.version s.head.nodes some)) refl

one_object : (s : State) → s.objects ≡ [] → (length (with_a s).objects == 0) ≡ false
one_object s none = ap (λ (os : List ObjectDecl). length (os ++ object_a ∷ []) == 0) none

from_no_objects : (live : Bool) (s : State) → s.stage ≡ stages.Objects → Fits live stages.Objects s → s.names ≡ [] → s.objects ≡ [] → (1 ≤ s.head.nodes) × (s.head.nodes ≤ 8) → Completes live stages.Objects s
unfolding line_taken body_taken word_at more object_line_taken
from_no_objects live s at fits no_names none nodes =
    with_line live stages.Objects s (with_a s) (codes "object" ∷ object_rest (codes "a") object_a) at fits (rw (object_a_taken s no_names nodes.0 nodes.1) refl)
    (λ after. from_some_objects live (with_a s) refl after (one_object s none))

none_of : {A : Type 0} (xs : List A) → length xs ≡ 0 → xs ≡ []
none_of [] e = refl
none_of (x ∷ xs) e = absurd (omega arith)

from_objects : (live : Bool) (s : State) → s.stage ≡ stages.Objects → Fits live stages.Objects s → Completes live stages.Objects s
unfolding HeadFits BodyFits
from_objects live s at fits = go (length s.objects == 0) refl
  where
    go : (b : Bool) → (length s.objects == 0) ≡ b → Completes live stages.Objects s
    go false e = from_some_objects live s at fits e
    go true e =
        let none : length s.objects ≡ 0 = grind (arith, nat_tests) in
        let no_names : length s.names ≡ 0 = fits.body.0.count ∙ none in
        from_no_objects live s at fits (none_of s.names no_names) (none_of s.objects none) fits.head.1

-- ---- the first lines

from_degree : (live : Bool) (s : State) → s.stage ≡ stages.Degree → Fits live stages.Degree s → Completes live stages.Degree s
unfolding line_taken body_taken word_at more degree_line_taken object_line_taken HeadFits BodyFits
from_degree live s at fits =
    with_line live stages.Degree s (with_a s) (codes "object" ∷ object_rest (codes "a") object_a) at fits (rw (object_a_taken s fits.body.names fits.head.1.0 fits.head.1.1) refl)
    (λ after. from_objects live (with_a s) refl after)

from_directory : (live : Bool) (s : State) → s.stage ≡ stages.Directory → Fits live stages.Directory s → Completes live stages.Directory s
unfolding line_taken more directory_taken keyword_at word_at HasRoom HeadFits RisesFrom
from_directory live s at fits =
    let listed : nodes_after s.head.nodes (Some s.head.nodes) None [] 0 (map decimal (0 ∷ [])) ≡ Ok (0 ∷ []) =
    nodes_after-nodes s.head.nodes (Some s.head.nodes) None [] 0 (0 ∷ []) fits.head.1.1 (record {
      low = none_below 0;
      rises = (omega arith, tt);
      below = below_some s.head.nodes fits.head.1.0;
      apart = λ k h. no_owner k (0 ∷ []) h;
      room = fits.head.1.0;
    }) in
    with_line live stages.Directory s (record s { stage = stages.Degree; head = record s.head { directory = 0 ∷ [] } }) (codes "directory" ∷ map decimal (0 ∷ [])) at fits (rw listed refl)
    (λ after. from_degree live _ refl after)

from_slots : (live : Bool) (s : State) → s.stage ≡ stages.Slots → Fits live stages.Slots s → Completes live stages.Slots s
unfolding line_taken more slots_taken keyword_at word_at ended
from_slots live s at fits =
    with_line live stages.Slots s (record s { stage = stages.Directory; head = record s.head { slots = 1 } }) (codes "slots" ∷ decimal 1 ∷ []) at fits (rw (range_at-decimal 1 9 1 [] (omega arith) (omega arith) (omega arith)) refl)
    (λ after. from_directory live _ refl after)

from_nodes : (live : Bool) (s : State) → s.stage ≡ stages.Nodes → Fits live stages.Nodes s → Completes live stages.Nodes s
unfolding line_taken more nodes_taken keyword_at word_at ended
from_nodes live s at fits =
    with_line live stages.Nodes s (record s { stage = stages.Slots; head = record s.head { nodes = 1 } }) (codes "nodes" ∷ decimal 1 ∷ []) at fits (rw (range_at-decimal 1 9 1 [] (omega arith) (omega arith) (omega arith)) refl)
    (λ after. from_slots live _ refl after)

from_version : (live : Bool) (s : State) → s.stage ≡ stages.Version → Fits live stages.Version s → Completes live stages.Version s
unfolding line_taken more version_taken version_of keyword_at word_at ended
from_version live s at fits =
    with_line live stages.Version s (record s { stage = stages.Nodes; head = record s.head { version = 1 } }) (codes "zeus" ∷ codes "1" ∷ []) at fits refl
    (λ after. from_nodes live _ refl after)

-- whatever the stage
pub completes : (live : Bool) (stage : Stage) (s : State) → s.stage ≡ stage → Fits live stage s → Completes live stage s
completes live stages.Version s at fits = from_version live s at fits
completes live stages.Nodes s at fits = from_nodes live s at fits
completes live stages.Slots s at fits = from_slots live s at fits
completes live stages.Directory s at fits = from_directory live s at fits
completes live stages.Degree s at fits = from_degree live s at fits
completes live stages.Objects s at fits = from_objects live s at fits
completes live stages.Txs s at fits = from_txs live s at fits
completes live stages.Steps s at fits = from_steps live s fits
