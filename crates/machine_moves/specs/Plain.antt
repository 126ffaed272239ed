-- Moves that neither change a slot's current transaction nor let an entry pass: what no run writes down.
use Rattle.machine_moves.specs.SystemState.{SystemState}
use Rattle.machine_moves.specs.Move.{Move, turns, passes_own, passes_kept, commits}

-- the moves that write nothing into the book
unfoldable pub IsPlain : (old new : SystemState) → Move old new → Type 0
IsPlain old new (turns n s c h) = ⊥
IsPlain old new (passes_own n s a b c) = ⊥
IsPlain old new (passes_kept n s a b c d e) = ⊥
IsPlain old new (commits n s c a b d e) = ⊥
IsPlain old new _ = Unit {0}

-- plain moves one after another
pub data PlainMoves : SystemState → SystemState → Type 0 where
  stays : (s : SystemState) → PlainMoves s s
  moves_on : (s t u : SystemState) (move : Move s t) → IsPlain s t move → PlainMoves t u → PlainMoves s u
