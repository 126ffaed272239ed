use Rattle.std.proofs.Common.{◌≡◌, ◌≤◌, ◌+◌, ◌-◌, length, take, drop, map}
use Rattle.zeus_model.specs.Commit.{as_kept, each_write, validated, writes_of}
use Rattle.object_table.specs.Entries.{AreEntriesWithin, named_of}
use Rattle.object_table.specs.Table.{each_unheld}
use Rattle.reliable_commit.proofs.advance.pass.Given as goal

-- the rest of the first entries has the same end
abbrev pub invariant-loop-turn : goal.invariant-loop-turn
invariant-loop-turn l = record {
  few : (l.count - l._turn) ≤ length l.pipe.pending;
  done : l.pipe.done ≡ l.initial.pipe.done + l._turn;
  rest : drop (l.count - l._turn) l.pipe.pending ≡ drop l.count l.initial.pipe.pending;
  copies :
      each_write validated l.copies.copies (writes_of (take (l.count - l._turn) (map as_kept l.pipe.pending)))
      ≡ each_write validated l.initial.copies.copies (writes_of (take l.count (map as_kept l.initial.pipe.pending)));
  holds :
      each_unheld l.copies.holds (named_of (take (l.count - l._turn) l.pipe.pending))
      ≡ each_unheld l.initial.copies.holds (named_of (take l.count l.initial.pipe.pending));
  objects : length l.copies.copies ≡ length l.initial.copies.copies;
  within : AreEntriesWithin (length l.initial.copies.copies) l.pipe.pending;
}
