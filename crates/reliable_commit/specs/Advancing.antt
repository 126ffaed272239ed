-- What passes of a stream at its node, or at one that replays it.
use Rattle.std.specs.Prelude.{ℕ, ◌≡◌, ◌-◌, ◌==◌, List, [], ◌∷◌, Option, if◌then◌else◌, length, map, take}
use Rattle.zeus_base.specs.declared.order.Stream.{Stream}
use Rattle.zeus_base.specs.declared.step.Passed.{Passed}
use Rattle.zeus_packet.specs.declared.letter.Body.TheVariants.{RVal}
use Rattle.zeus_model.specs.declared.state.Copy.{Copy}
use Rattle.zeus_model.specs.declared.state.Kept.{Kept}
use Rattle.zeus_model.specs.Act.{to_each}
use Rattle.zeus_model.specs.Commit.{advance_kept, advance_own, as_kept, followers_of}
use Rattle.zeus_model.specs.State.{Node, StreamLog, own_stream, slot}
use Rattle.zeus_base.specs.Nodes.{without, meet}
use Rattle.object_table.specs.Entries.{AreEntriesWithin, named_of}
use Rattle.object_table.specs.Table.{Table, each_unheld}
use Rattle.commit_pipeline.specs.Pipes.{Waiting}
use Rattle.follower_log.specs.Streams.{log_at}
use Rattle.reliable_commit.specs.Following.{IsFollowed, IsNodeWith}
use Rattle.reliable_commit.specs.declared.advance.Advance.{Advance}

-- a node that has these copies, these entries of a slot that wait, this number and these members
pub record IsOwnWith (n : Node) (s : ℕ) (cs : List (Option Copy)) (w : Waiting) (m : ℕ) (ms : List ℕ) : Type 0 where
  pub copies : n.copies ≡ cs
  pub done : (slot n s).done ≡ w.done
  pub pending : (slot n s).pending ≡ w.pending
  pub me : n.me ≡ m
  pub members : n.members ≡ ms

-- a node that has these copies and streams, this number and these members
pub record IsMemberWith (n : Node) (cs : List (Option Copy)) (ls : List (List StreamLog)) (m : ℕ) (ms : List ℕ) : Type 0 where
  pub node : IsNodeWith n cs ls m
  pub members : n.members ≡ ms

-- how many entries an advance passes
abbrev pub count_of : Advance → ℕ
count_of a = a.after - a.first

-- the pass that an advance makes
abbrev pub passed_by : Stream → Advance → List Passed
passed_by s a =
    if a.first == a.after then [] else record { stream = s; first = a.first; after = a.after } ∷ []

-- the members among the followers of the entries, without the node itself
abbrev pub told_of : ℕ → List ℕ → List Kept → List ℕ
told_of me members ks = without me (meet (followers_of ks) members)

-- ---- what an advance does

-- a slot's own stream advances at the node by the rules with these copies, these entries that wait and this advance
pub record IsOwnAdvance (n : Node) (s : ℕ) (cs : List (Option Copy)) (w : Waiting) (a : Advance) : Type 0 where
  -- those to be told get the number of entries that have passed, and nobody gets more
  pub letters : (advance_own n s).sent ≡ to_each n a.tell (RVal (own_stream n s) a.after)
  -- the pass, where there is one
  pub passed : (advance_own n s).passed ≡ passed_by (own_stream n s) a
  -- the writes of what has passed are validated
  pub copies : cs ≡ (advance_own n s).node.copies
  -- what has passed waits no more
  pub pending : w.pending ≡ (slot (advance_own n s).node s).pending
  -- and counts as done
  pub done : w.done ≡ (slot (advance_own n s).node s).done

-- an own slot of a node with this number and these members advances: from one table to another, and from the entries that
-- wait to the rest
pub record AdvancesOwn (me : ℕ) (members : List ℕ) (old new : Table) (waiting rest : Waiting) (a : Advance) : Type 0 where
  -- at every node with these copies, number and members, of which this slot's entries that wait are those of the pipe
  pub acts : (n : Node) (s : ℕ) → IsOwnWith n s old.copies waiting me members → IsOwnAdvance n s new.copies rest a
  -- it begins at the first entry that waits
  pub first : a.first ≡ waiting.done
  -- it ends before the first entry that waits afterwards
  pub after : a.after ≡ rest.done
  -- to be told are the members among the followers of what has passed, without the node
  pub tell : a.tell ≡ told_of me members (take (count_of a) (map as_kept waiting.pending))
  -- what the passed entries name is let go
  pub holds : new.holds ≡ each_unheld old.holds (named_of (take (count_of a) waiting.pending))
  -- there are as many objects as before
  pub objects : length new.copies ≡ length old.copies
  -- what waits afterwards is of objects that there are
  pub within : AreEntriesWithin (length old.copies) rest.pending

-- a stream that the node replays advances by the rules with these copies, these streams and this advance
pub record IsKeptAdvance (n : Node) (s : Stream) (cs : List (Option Copy)) (ls : List (List StreamLog)) (a : Advance) : Type 0 where
  -- those to be told get the number of entries that have passed, and nobody gets more
  pub letters : (advance_kept n s).sent ≡ to_each n a.tell (RVal s a.after)
  -- the pass, where there is one
  pub passed : (advance_kept n s).passed ≡ passed_by s a
  -- the writes of what has passed are validated
  pub copies : cs ≡ (advance_kept n s).node.copies
  -- what has passed is stored no more, and counts as done
  pub logs : ls ≡ (advance_kept n s).node.logs

-- a stream that a node with this number and these members replays advances: from one table and these streams to others
pub record AdvancesKept (s : Stream) (me : ℕ) (members : List ℕ) (old new : Table) (ls ms : List (List StreamLog)) (a : Advance) : Type 0 where
  -- at every node with these copies and streams, this number and these members
  pub acts : (n : Node) → IsMemberWith n old.copies ls me members → IsKeptAdvance n s new.copies ms a
  -- it begins at the first entry that has not passed
  pub first : a.first ≡ (log_at ls s).done
  -- it ends before the first entry that has not passed afterwards
  pub after : a.after ≡ (log_at ms s).done
  -- to be told are the members among the followers of what has passed, without the node
  pub tell : a.tell ≡ told_of me members (take (count_of a) (log_at ls s).kept)
  -- no hold changes
  pub holds : new.holds ≡ old.holds
  -- there are as many objects as before
  pub objects : length new.copies ≡ length old.copies
  -- a stream that was followed still is
  pub streams : (t : Stream) → IsFollowed (length old.copies) ls t → IsFollowed (length old.copies) ms t
