-- A list of writes, kept in 8 places of which the first are the list.
use Rattle.std.specs.Prelude.{ℕ, ◌≡◌, ◌<◌, ◌≤◌, ◌+◌, ◌-◌, List, [], ◌∷◌, ◌++◌, length, take, drop, set, replicate}
use Rattle.std.proofs.Common.{arith, refl, ap, sym, ◌∙◌}
use Rattle.std.proofs.lemmas.List.{take-append-drop, length-take-le, length-set, drop-drop, drop-set-lt, drop-replicate, take_more_set}
use Rattle.zeus_base.specs.declared.value.Value.TheVariants.{Num}
use Rattle.zeus_packet.specs.declared.write.Write.{Write}
use Rattle.zeus_packet.specs.declared.write.Writes.TheInside.{Inside}

-- what stands in a place without a write
abbrev pub no_write : Write
no_write = record { obj = 0; ver = 0; value = Num 0 }

-- behind the list no place has a write
pub record IsKept (kept : Inside) : Type 0 where
  pub whole : length kept.items ≡ 8
  pub few : kept.len ≤ 8
  pub rest : drop kept.len kept.items ≡ replicate (8 - kept.len) no_write

-- the list kept in 8 places
abbrev pub kept_writes : List Write → Inside
kept_writes ws = record { len = length ws; items = ws ++ replicate (8 - length ws) no_write }

-- the list gives the 8 places back
pub kept_writes-take : (w : Inside) → IsKept w → kept_writes (take w.len w.items) ≡ w
kept_writes-take w h =
    let taken : length (take w.len w.items) ≡ w.len = length-take-le w.len w.items (omega (arith, h.whole, h.few)) in
    let parts : take w.len w.items ++ drop w.len w.items ≡ w.items = take-append-drop w.len w.items in
    rw (taken, ← h.rest, parts) refl

pub length-kept : (w : Inside) → IsKept w → length (take w.len w.items) ≡ w.len
length-kept w h = length-take-le w.len w.items (omega (arith, h.whole, h.few))

-- a write in the first place behind the list
pub IsKept-set : (w : Inside) (write : Write) → IsKept w → w.len < 8 → IsKept record { len = w.len + 1; items = set w.items w.len write }
IsKept-set w write h room =
    let behind : drop (w.len + 1) (set w.items w.len write) ≡ drop (w.len + 1) w.items = drop-set-lt (w.len + 1) w.items w.len write (omega arith) in
    let one_less : drop (w.len + 1) w.items ≡ drop 1 (replicate (8 - w.len) no_write) = sym (drop-drop 1 w.len w.items) ∙ ap (drop 1) h.rest in
    let count : 8 - w.len - 1 ≡ 8 - (w.len + 1) = omega arith in
    record {
      whole = length-set w.items w.len write ∙ h.whole;
      few = omega (arith, room);
      rest = behind ∙ (one_less ∙ (drop-replicate 1 (8 - w.len) no_write ∙ ap (λ (n : ℕ). replicate n no_write) count));
    }

pub take-kept_set : (w : Inside) (write : Write) → IsKept w → w.len < 8 → take (w.len + 1) (set w.items w.len write) ≡ take w.len w.items ++ write ∷ []
take-kept_set w write h room = take_more_set w.items w.len write (omega (arith, h.whole, room))
