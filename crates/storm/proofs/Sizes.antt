-- The map that a history leaves has all objects.
use Rattle.std.proofs.Common.{ℕ, zero, suc, ◌≡◌, ◌+◌, ◌≤◌, List, [], ◌∷◌, length, arith}
use Rattle.std.proofs.lemmas.List.{length-map}
use Rattle.zeus_base.specs.Tables.{put}
use Rattle.zeus_base.specs.declared.config.Config.{Config}
use Rattle.zeus_base.specs.declared.value.Value.{Value}
use Rattle.zeus_txn.specs.Map.{applied_map, content, declared_content, no_content, run_at, start_map, written_map}
use Rattle.zeus_txn.specs.declared.map.Versioned.{Versioned}
use Rattle.zeus_txn.specs.declared.ops.Op.{Op}
use Rattle.zeus_model.specs.Serial.{serial_map}

put-least : {A : Type 0} (d : A) (xs : List A) (i : ℕ) (v : A) → length xs ≤ length (put d xs i v)
unfolding put
put-least d [] zero v = omega arith
put-least d [] (suc i) v = omega arith
put-least d (x ∷ xs) zero v = omega arith
put-least d (x ∷ xs) (suc i) v = let rest = put-least d xs i v in omega arith

written-least : (ws : List (ℕ × Value)) (m : List Versioned) → length m ≤ length (written_map m ws)
unfolding written_map
written-least [] m = omega arith
written-least (w ∷ ws) m =
    let first = put-least no_content m w.0 record { ver = (content m w.0).ver + 1; value = w.1 } in
    let rest = written-least ws (put no_content m w.0 record { ver = (content m w.0).ver + 1; value = w.1 }) in
    omega (arith, first, rest)

serial-least : (txs : List (List Op)) (m : List Versioned) → length m ≤ length (serial_map m txs)
unfolding serial_map
serial-least [] m = omega arith
serial-least (tx ∷ txs) m =
    let first = written-least (run_at m tx).writes m in
    let rest = serial-least txs (applied_map m tx) in
    omega (arith, first, rest)

start-size : (c : Config) → length (start_map c) ≡ length c.objects
unfolding start_map
start-size c = length-map c.objects declared_content

-- of a map that a history leaves
pub all-left : (c : Config) (txs : List (List Op)) (m : List Versioned) → m ≡ serial_map (start_map c) txs → length c.objects ≤ length m
all-left c txs m is =
    let size = start-size c in
    let least = serial-least txs (start_map c) in
    rw is (omega (arith, size, least))
