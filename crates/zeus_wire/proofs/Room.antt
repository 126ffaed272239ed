-- How much room the parts of a packet take, and the loop that spells its writes.
use Rattle.std.proofs.Common.{◌≡◌, ℕ, ◌+◌, ◌*◌, ◌≤◌, ◌<◌, true, List, [], ◌∷◌, ◌++◌, length, get_or, drop, append_assoc, sym, ap, subst, ◌∙◌, arith}
use Rattle.std.specs.Global.{Vec}
use Rattle.std.specs.List.{list_all}
use Rattle.zeus_wire.proofs.Booleans.{both_true}
use Rattle.std.proofs.lemmas.List.{drop_more, at_drop_all, append-nil}
use Rattle.std.proofs.lemmas.Bool.Decides.{nat_tests}
use Rattle.zeus_packet.specs.Fits.{write_fits}
use Rattle.zeus_packet.specs.declared.write.Write.{Write}
use Rattle.zeus_wire.specs.Ranges.{AreWrites, IsWrite, largest, longest, longest_value, longest_writes, room}
use Rattle.zeus_model.specs.PacketSpelling.{write_bytes, writes_bytes}

-- the longest packet has 8 of the longest writes
pub longest_is : (version : ℕ) → (longest version ≡ 104 + 8 * longest_value version) × (8 ≤ longest_value version)
unfolding longest longest_value
longest_is version = (grind (arith, nat_tests), grind (arith, nat_tests))

-- the longest writes, by their count
pub few_writes : (version : ℕ) (ws : List Write) → longest_writes version ws ≡ length ws * (10 + longest_value version)
unfolding longest_writes
few_writes version [] = omega arith
few_writes version (w ∷ ws) = rw (few_writes version ws) (grind arith)

-- what is left to be written, where rest is left of all the writes
pub record Remains (version : ℕ) (all rest : List Write) (before now : Vec ℕ) : Type 0 where
  pub fits : list_all (write_fits (largest version)) rest ≡ true
  pub bytes : now.items ++ writes_bytes version rest ≡ before.items ++ writes_bytes version all
  pub enough : longest_writes version rest ≤ room now
  pub spent : room before + longest_writes version rest ≤ room now + longest_writes version all
  pub writes : AreWrites rest → AreWrites all

-- at a place within the writes, what is left begins with the write there
pub at_write : (version : ℕ) (all : List Write) (i : ℕ) (w : Write) (before now : Vec ℕ) → i < length all → w ≡ get_or all i w → Remains version all (drop i all) before now → Remains version all (w ∷ drop (i + 1) all) before now
at_write version all i w before now lt is r =
    subst (λ rest. Remains version all rest before now) (drop_more all i w lt ∙ ap (λ v. v ∷ drop (i + 1) all) (sym is)) r

-- past the last write nothing is left
pub at_end : (version : ℕ) (all : List Write) (i : ℕ) (before now : Vec ℕ) → length all ≤ i → Remains version all (drop i all) before now → Remains version all [] before now
at_end version all i before now le r = subst (λ rest. Remains version all rest before now) (at_drop_all (λ rest. rest) all i le) r

-- the next write fits
pub first_fits : (version : ℕ) (all rest : List Write) (w : Write) (before now : Vec ℕ) → Remains version all (w ∷ rest) before now → write_fits (largest version) w ≡ true
first_fits version all rest w before now r = (both_true (write_fits (largest version) w) (list_all (write_fits (largest version)) rest) r.fits).0

-- there is room for the next write
pub first_room : (version : ℕ) (all rest : List Write) (w : Write) (before now : Vec ℕ) → Remains version all (w ∷ rest) before now → 10 + longest_value version ≤ room now
unfolding longest_writes
first_room version all rest w before now r = let enough : 10 + longest_value version + longest_writes version rest ≤ room now = r.enough in omega arith

-- the next write is written, and the others remain
pub first_done : (version : ℕ) (all rest : List Write) (w : Write) (before now after : Vec ℕ) → Remains version all (w ∷ rest) before now
    → after.items ≡ now.items ++ write_bytes version w → room now ≤ room after + (10 + longest_value version) → IsWrite w → Remains version all rest before after
unfolding longest_writes writes_bytes AreWrites
first_done version all rest w before now after r bytes spent is =
    let enough : 10 + longest_value version + longest_writes version rest ≤ room now = r.enough in
    let used : room before + (10 + longest_value version + longest_writes version rest) ≤ room now + longest_writes version all = r.spent in
    record {
      fits = (both_true (write_fits (largest version) w) (list_all (write_fits (largest version)) rest) r.fits).1;
      bytes = rw (bytes, append_assoc now.items (write_bytes version w) (writes_bytes version rest)) r.bytes;
      enough = omega arith;
      spent = omega arith;
      writes = λ others. r.writes (is, others);
    }

-- all writes are written
pub all_done : (version : ℕ) (all : List Write) (before now : Vec ℕ) → Remains version all [] before now
    → (now.items ≡ before.items ++ writes_bytes version all) × (room before ≤ room now + longest_writes version all) × AreWrites all
unfolding longest_writes writes_bytes AreWrites
all_done version all before now r =
    let spent : room before + 0 ≤ room now + longest_writes version all = r.spent in
    (sym (append-nil now.items) ∙ r.bytes, omega arith, r.writes tt)
