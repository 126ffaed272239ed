-- Which streams there are: at the start of a run, one by one, and after one has become another.
use Rattle.std.specs.Prelude.{ℕ, ◌<◌, ◌==◌, Bool, true, false, nat_lt, List, [], replicate, length, if◌then◌else◌}
use Rattle.std.proofs.Common.{◌∙◌, ap}
use Rattle.std.proofs.lemmas.List.{length-replicate}
use Rattle.zeus_base.specs.TableLaws.{length-put, nth-replicate}
use Rattle.zeus_base.specs.Tables.{nth, put}
use Rattle.zeus_base.specs.declared.order.Stream.{Stream}
use Rattle.zeus_packet.specs.declared.letter.RInv.{RInv}
use Rattle.zeus_model.specs.declared.answer.Outcome.{Outcome}
use Rattle.zeus_model.specs.Act.{Did}
use Rattle.zeus_model.specs.Commit.{next_kept, stored_rinv}
use Rattle.zeus_model.specs.State.{Node, StreamLog, log, no_log}
use Rattle.follower_log.specs.StreamLaws.{length_row-put}
use Rattle.follower_log.specs.Streams.{IsStreamOf, with_log_at}
use Rattle.crash_replay.specs.Replay.{HasStreams}

-- a node begins with the stream of each node and slot
pub HasStreams-start : (nodes slots : ℕ) → HasStreams nodes slots (replicate nodes (replicate slots no_log))
HasStreams-start nodes slots =
    record {
      by_node = length-replicate nodes (replicate slots no_log);
      by_slot = λ i h. ap length (nth-replicate [] (replicate slots no_log) nodes i h) ∙ length-replicate slots no_log;
    }

-- each of the streams is there
pub HasStreams-stream : (nodes slots : ℕ) (logs : List (List StreamLog)) (s : Stream) → HasStreams nodes slots logs → s.node < nodes → s.slot < slots → IsStreamOf logs s
HasStreams-stream nodes slots logs s h node slot = record { node = rw h.by_node node; slot = rw (h.by_slot s.node node) slot }

-- as many are there after one has become another
pub HasStreams-with_log_at : (nodes slots : ℕ) (logs : List (List StreamLog)) (s : Stream) (l : StreamLog) → HasStreams nodes slots logs → IsStreamOf logs s → HasStreams nodes slots (with_log_at logs s l)
HasStreams-with_log_at nodes slots logs s l h is =
    let row : List StreamLog = put no_log (nth [] logs s.node) s.slot l in
    record {
      by_node = length-put [] logs s.node row is.node ∙ h.by_node;
      by_slot = λ i below. length_row-put logs s row i (length-put no_log (nth [] logs s.node) s.slot l is.slot) ∙ h.by_slot i below;
    }

either : (P : Did Outcome → Type 0) (b : Bool) (d e : Did Outcome) → P d → P e → P (if b then d else e)
either P true d e h k = h
either P false d e h k = k

-- as many are there after an entry has come
pub HasStreams-stored_rinv : (nodes slots : ℕ) (n : Node) (from : ℕ) (r : RInv) → HasStreams nodes slots n.logs → IsStreamOf n.logs r.stream → HasStreams nodes slots (stored_rinv n from r).node.logs
unfolding stored_rinv
HasStreams-stored_rinv nodes slots n from r h is =
    let next : ℕ = next_kept (log n r.stream) in
    let kept : Did Outcome → Type 0 = λ (d : Did Outcome). HasStreams nodes slots d.node.logs in
    either kept (nat_lt r.number next) _ _ h
    (either kept (nat_lt next r.number) _ _ h
    (either kept (length (log n r.stream).kept == 16) _ _ h (HasStreams-with_log_at nodes slots n.logs r.stream _ h is)))
