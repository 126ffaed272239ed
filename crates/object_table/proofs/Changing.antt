-- Changes of one place of a table in range.
use Rattle.std.proofs.Common.{ℕ, ◌≡◌, ◌<◌, List, Option, Some, None, length, sym, ◌∙◌, arith, replicate, map}
use Rattle.std.specs.List.{All}
use Rattle.std.proofs.Math.ListN.{get_or, set, length-set}
use Rattle.std.proofs.lemmas.List.{length-map, length-replicate}
use Rattle.std.proofs.lemmas.List.Elements.{All-replicate, All-set}
use Rattle.std.proofs.lemmas.Bool.Decides.{nat_tests}
use Rattle.zeus_base.specs.Tables.{nth, put}
use Rattle.zeus_base.specs.TableLaws.{put-set, nth_read}
use Rattle.zeus_model.specs.declared.state.Copy.{Copy}
use Rattle.object_table.specs.declared.hold.Hold.{Hold}
use Rattle.object_table.specs.Table.{CanHold, IsCounted, IsTable, held, unheld}

-- a change of what stands at a place
pub set_changed : {A : Type 0} (d : A) (f : A → A) (xs : List A) (i : ℕ) (x : A) → i < length xs → x ≡ get_or xs i x → set xs i (f x) ≡ put d xs i (f (nth d xs i))
set_changed d f xs i x h e = rw (nth_read d xs i x h e) (sym (put-set d xs i (f x) h))

-- if a hold counts from 1 to 16, then a table with it at one object is still a table
pub IsTable-holds : (copies : List (Option Copy)) (holds : List (Option Hold)) (i : ℕ) (h : Option Hold) → IsCounted h → IsTable record { copies = copies; holds = holds } → IsTable record { copies = copies; holds = set holds i h }
IsTable-holds copies holds i h counted t =
    record { places = length-set _ _ _ ∙ t.places; counted = All-set IsCounted holds i h counted t.counted }

-- if a slot can hold an object, then the hold with one more counts from 1 to 16
pub IsCounted-held : (s : ℕ) (h : Option Hold) → CanHold s h → IsCounted (Some (held s h))
unfolding CanHold IsCounted held
IsCounted-held s None can = (omega arith, omega arith)
IsCounted-held s (Some h) can = (omega arith, omega (arith, can.1))

-- if a hold counts from 1 to 16, then so does what is left of it when it is let go once
pub IsCounted-unheld : (h : Option Hold) → IsCounted h → IsCounted (unheld h)
unfolding IsCounted unheld
IsCounted-unheld None counted = counted
IsCounted-unheld (Some h) counted = grind (arith, nat_tests)

-- what stands at a place in range is counted
pub counted_at : (holds : List (Option Hold)) (i : ℕ) (h : Option Hold) → i < length holds → h ≡ get_or holds i h → All IsCounted holds → IsCounted h
counted_at holds i h here is counted = rw is (counted i h here)

-- at the start no object is held
pub IsTable-start : {A : Type 0} (f : A → Option Copy) (objects : List A) (copies : List (Option Copy)) (holds : List (Option Hold)) (n : ℕ) → copies ≡ map f objects → holds ≡ replicate n None → n ≡ length objects → IsTable record { copies = copies; holds = holds }
unfolding IsCounted
IsTable-start f objects copies holds n c h e =
    rw (c, h, e)
    record { places = length-replicate _ _ ∙ sym (length-map objects f); counted = All-replicate IsCounted (length objects) None tt }
