-- The moves of the machine. What a move needs is said by the letters that were sent and by the node that acts; it is less than what
-- the rules ask for, and any part of the letters may be left out, but for the acknowledgement of a proposal that is newly held.
use Rattle.std.specs.Prelude.{ℕ, ◌≡◌, ◌≢◌, ◌+◌, ◌<◌, ◌≤◌, true, false, List, [], length, map, Option, Some, None, is_some, ◌⊎◌}
use Rattle.zeus_base.specs.Nodes.{has, with_node, without}
use Rattle.zeus_base.specs.Order.{is_below}
use Rattle.zeus_base.specs.declared.order.Stamp.{Stamp}
use Rattle.zeus_base.specs.declared.order.Stream.{Stream}
use Rattle.zeus_packet.specs.Place.{source, arbiters, new_place}
use Rattle.zeus_packet.specs.declared.letter.Body.TheVariants.{RInv, RAck, RVal, OReq, OInv, OAck, ONack, OVal, Recovered}
use Rattle.zeus_packet.specs.declared.letter.Cause.{Cause}
use Rattle.zeus_packet.specs.declared.letter.Letter.{Letter}
use Rattle.zeus_packet.specs.declared.letter.RInv.{RInv as Invalidation}
use Rattle.zeus_packet.specs.declared.place.Place.{Place}
use Rattle.zeus_packet.specs.declared.place.Proposal.{Proposal}
use Rattle.zeus_packet.specs.declared.place.Want.{Want}
use Rattle.zeus_packet.specs.declared.place.Want.TheVariants.{Leave}
use Rattle.zeus_packet.specs.declared.write.Content.{Content}
use Rattle.zeus_model.specs.In.{In}
use Rattle.zeus_model.specs.Tables.{nth, put}
use Rattle.zeus_model.specs.declared.state.Current.{Current}
use Rattle.zeus_model.specs.declared.state.Gather.{Gather}
use Rattle.zeus_model.specs.declared.state.Kept.{Kept}
use Rattle.zeus_model.specs.State.{Node, entry, gather, slot, log, with_slot, with_log, with_gather, own_stream, is_open}
use Rattle.zeus_model.specs.Act.{letter}
use Rattle.zeus_model.specs.Commit.{as_kept, raise, store, passes, pass_own, pass_kept, next_kept, no_kept, no_pending, acked_kept, acked_pending}
use Rattle.zeus_model.specs.Ownership.{settle, holding, is_source, own_content, unready_cause, driven, greater_cause, greater_gather, gather_for, noted, is_decidable, bring}
use Rattle.zeus_model.specs.Membership.{dropped}
use Rattle.zeus_model.specs.Local.{with_current, committed, write_cause, run_here, new_writes, replicas_of}
use Rattle.machine_moves.specs.SystemState.{SystemState, IsReceivable, Changes, Same, NewView, nothing, view}

-- the entries that a node has of a stream: pending in its own slot, or stored
unfoldable pub own_kept : Node → ℕ → List Kept
own_kept n s = map as_kept (slot n s).pending

-- the invalidation of an entry of a stream, as the node sends it now
abbrev pub entry_letter : Stream → ℕ → ℕ → Kept → Invalidation
entry_letter s number done k = record { stream = s; number = number; done = done; followers = k.followers; writes = k.writes }

-- what a live node may send without a change of its state
pub data IsTellable (n : Node) : Letter → Type 0 where
  -- requests, and advice on them
  request : (to x : ℕ) (want : Want) → IsTellable n (letter n to (OReq x want))
  advice : (to x : ℕ) (stamp : Stamp) (cause : Cause) → IsTellable n (letter n to (ONack x stamp cause))
  -- its settled placements
  placement : (to x : ℕ) → IsTellable n (letter n to (OVal x (entry n x).stamp (entry n x).place))
  -- that it has reported
  reported : (to : ℕ) → has n.me n.reported ≡ true → IsTellable n (letter n to Recovered)
  -- its own pending entries, to member followers
  own_entry : (to s i : ℕ) → i < length (slot n s).pending → has to (nth no_kept (own_kept n s) i).followers ≡ true
      → has to n.members ≡ true → to ≢ n.me
      → IsTellable n (letter n to (RInv (entry_letter (own_stream n s) ((slot n s).done + i) (slot n s).done (nth no_kept (own_kept n s) i))))
  -- stored entries of a stream whose node is no member, to member followers
  kept_entry : (to i : ℕ) (s : Stream) → has s.node n.members ≡ false → i < length (log n s).kept
      → has to (nth no_kept (log n s).kept i).followers ≡ true → has to n.members ≡ true → to ≢ n.me
      → IsTellable n (letter n to (RInv (entry_letter s ((log n s).done + i) (log n s).done (nth no_kept (log n s).kept i))))
  -- that it stores an entry, or knows that it has passed
  stored : (to number : ℕ) (s : Stream) → s.node ≢ n.me → number < next_kept (log n s) → IsTellable n (letter n to (RAck s number))
  -- how many entries of a stream have passed
  own_passed : (to s d : ℕ) → d ≤ (slot n s).done → to ≢ n.me → IsTellable n (letter n to (RVal (own_stream n s) d))
  kept_passed : (to d : ℕ) (s : Stream) → s.node ≢ n.me → d ≤ (log n s).done → to ≢ s.node → IsTellable n (letter n to (RVal s d))

-- a node says a proposal: invalidations to arbiters of the base, and its acknowledgement to the requester where that is a member
pub data IsAboutProposal (n : Node) (x : ℕ) (p : Proposal) : Letter → Type 0 where
  to_arbiter : (to : ℕ) → has to (arbiters p.base_place n.members n.directory) ≡ true → IsAboutProposal n x p (letter n to (OInv x p))
  to_collector : (to : ℕ) → (has p.requester n.members ≡ true → to ≡ p.requester)
      → (is_source n p.base_place ≡ true → unready_cause n x ≡ None)
      → IsAboutProposal n x p (letter n to (OAck x p (own_content n x p.base_place)))

-- the acknowledgement of a proposal is among the letters
abbrev pub HasAcked : SystemState → Node → ℕ → Proposal → Type 0
HasAcked s n x p = (to : ℕ) × In (letter n to (OAck x p (own_content n x p.base_place))) s.letters

-- the letter tells this stamp and placement, as the base of a proposal or as a decision
pub data IsSettling (x : ℕ) (stamp : Stamp) (place : Place) : Letter → Type 0 where
  by_invalidation : (from to epoch : ℕ) (p : Proposal) → p.base ≡ stamp → p.base_place ≡ place
      → IsSettling x stamp place record { from = from; to = to; epoch = epoch; body = OInv x p }
  by_acknowledgement : (from to epoch : ℕ) (p : Proposal) (c : Option Content) → p.base ≡ stamp → p.base_place ≡ place
      → IsSettling x stamp place record { from = from; to = to; epoch = epoch; body = OAck x p c }
  by_decision : (from to epoch : ℕ) → IsSettling x stamp place record { from = from; to = to; epoch = epoch; body = OVal x stamp place }

-- the letter tells that entries of the stream below d have passed
pub data IsRaising (s : Stream) (d : ℕ) : Letter → Type 0 where
  by_entry : (from to epoch : ℕ) (r : Invalidation) → r.stream ≡ s → r.done ≡ d
      → IsRaising s d record { from = from; to = to; epoch = epoch; body = RInv r }
  by_word : (from to epoch : ℕ) → IsRaising s d record { from = from; to = to; epoch = epoch; body = RVal s d }

-- a driver may drive a request of a member, which holds no proposal and whose settled placement has a source
pub record MayDrive (s : SystemState) (n x requester : ℕ) (want : Want) : Type 0 where
  pub directory : has n (s.node n).directory ≡ true
  pub member : has requester (s.node n).members ≡ true
  pub opened : is_open (s.node n) ≡ true
  pub free : (entry (s.node n) x).proposal ≡ None
  pub sourced : is_some (source (entry (s.node n) x).place (s.node n).members) ≡ true
  pub may_want : want ≡ Leave → (has requester (entry (s.node n) x).place.replicas ≡ true) × ((entry (s.node n) x).place.owner ≢ requester)
  pub ready : is_source (s.node n) (entry (s.node n) x).place ≡ true → unready_cause (s.node n) x ≡ None

-- an arbiter may hold a proposal that it was sent, above its settled stamp, whose base is not, and not below what it holds
pub record MayAccept (s : SystemState) (n x : ℕ) (p : Proposal) : Type 0 where
  pub sent : (l : Letter) × (l.body ≡ OInv x p) × IsReceivable s n l
  pub opened : is_open (s.node n) ≡ true
  pub arbiter : (has n (s.node n).directory ≡ true) ⊎ (is_source (s.node n) p.base_place ≡ true)
  pub not_below_base : is_below (entry (s.node n) x).stamp p.base ≡ false
  pub below : is_below (entry (s.node n) x).stamp p.stamp ≡ true
  pub greatest : greater_cause p.stamp (entry (s.node n) x).proposal ≡ None
  pub ready : is_source (s.node n) p.base_place ≡ true → unready_cause (s.node n) x ≡ None

-- one move of the machine: a new view, or one node that changes and sends letters that it may send
pub data Move (old new : SystemState) : Type 0 where
  makes_view : (set : List ℕ) → NewView old new set → Move old new
  stops : (n : ℕ) → Changes old new n (record (old.node n) { stopped = true }) nothing → Move old new
  installs : (n e : ℕ) → (old.node n).epoch < e → e ≤ length old.views
      → Changes old new n (record (old.node n) { epoch = e; members = view old e; reported = []; gathers = dropped (old.node n).gathers }) nothing → Move old new
  tells : (n : ℕ) → Changes old new n (old.node n) (IsTellable (old.node n)) → Move old new
  -- the slots' current transactions come and go
  turns : (n s : ℕ) (c : Option Current) → Changes old new n (with_current (old.node n) s c) nothing → Move old new
  -- ownership
  settles : (n x : ℕ) (stamp : Stamp) (place : Place) (l : Letter) → IsReceivable old n l → IsSettling x stamp place l
      → is_below (entry (old.node n) x).stamp stamp ≡ true
      → Changes old new n (settle (old.node n) x stamp place) nothing → Move old new
  drives : (n x requester : ℕ) (want : Want) → MayDrive old n x requester want
      → Changes old new n (holding (old.node n) x (driven (old.node n) x requester want)) (IsAboutProposal (old.node n) x (driven (old.node n) x requester want))
      → HasAcked new (old.node n) x (driven (old.node n) x requester want) → Move old new
  accepts : (n x : ℕ) (p : Proposal) → MayAccept old n x p
      → Changes old new n (holding (old.node n) x p) (IsAboutProposal (old.node n) x p)
      → HasAcked new (old.node n) x p → Move old new
  redrives : (n x : ℕ) (p : Proposal) → (entry (old.node n) x).proposal ≡ Some p → is_open (old.node n) ≡ true
      → is_some (source p.base_place (old.node n).members) ≡ true
      → Changes old new n (old.node n) (IsAboutProposal (old.node n) x p) → Move old new
  gathers : (n x from : ℕ) (p : Proposal) (c : Option Content) (l : Letter) → l.body ≡ OAck x p c → l.from ≡ from → IsReceivable old n l
      → is_below (entry (old.node n) x).stamp p.stamp ≡ true → greater_gather p.stamp (gather (old.node n) x) ≡ None
      → Changes old new n (with_gather (old.node n) x (Some (noted (gather_for p (gather (old.node n) x)) from c))) nothing → Move old new
  decides : (n x : ℕ) (g : Gather) (c : Content) → gather (old.node n) x ≡ Some g → is_decidable (old.node n) g ≡ true → g.content ≡ Some c
      → Changes old new n (bring (settle (old.node n) x g.proposal.stamp (new_place g.proposal)) x g.proposal c) nothing → Move old new
  -- replication
  raises : (n d : ℕ) (s : Stream) (l : Letter) → s.node ≢ n → IsReceivable old n l → IsRaising s d l → (log (old.node n) s).done < d
      → Changes old new n (raise (old.node n) s d) nothing → Move old new
  stores : (n : ℕ) (r : Invalidation) (l : Letter) → r.stream.node ≢ n → IsReceivable old n l → l.body ≡ RInv r
      → r.done ≤ (log (old.node n) r.stream).done → r.number ≡ next_kept (log (old.node n) r.stream) → length (log (old.node n) r.stream).kept ≢ 16
      → Changes old new n (store (old.node n) r) nothing → Move old new
  notes_own : (n s i from : ℕ) (l : Letter) → IsReceivable old n l → l.from ≡ from → l.body ≡ RAck record { node = n; slot = s } ((slot (old.node n) s).done + i)
      → i < length (slot (old.node n) s).pending
      → Changes old new n (with_slot (old.node n) s record {
        current = (slot (old.node n) s).current;
        done = (slot (old.node n) s).done;
        pending = put no_pending (slot (old.node n) s).pending i (acked_pending (nth no_pending (slot (old.node n) s).pending i) from);
      }) nothing → Move old new
  notes_kept : (n i from : ℕ) (s : Stream) (l : Letter) → s.node ≢ n → IsReceivable old n l → l.from ≡ from → l.body ≡ RAck s ((log (old.node n) s).done + i)
      → i < length (log (old.node n) s).kept
      → Changes old new n (with_log (old.node n) s record {
        done = (log (old.node n) s).done;
        kept = put no_kept (log (old.node n) s).kept i (acked_kept (nth no_kept (log (old.node n) s).kept i) from);
      }) nothing → Move old new
  -- one entry passes
  passes_own : (n s : ℕ) → 0 < length (slot (old.node n) s).pending
      → passes (old.node n) (nth no_kept (own_kept (old.node n) s) 0) ≡ true
      → Changes old new n (pass_own (old.node n) s 1) nothing → Move old new
  passes_kept : (n : ℕ) (s : Stream) → has s.node (old.node n).members ≡ false → s.node ≢ n → 0 < length (log (old.node n) s).kept
      → passes (old.node n) (nth no_kept (log (old.node n) s).kept 0) ≡ true
      → Changes old new n (pass_kept (old.node n) s 1) nothing → Move old new
  reports : (n : ℕ) → ((s : Stream) → has s.node (old.node n).members ≡ false → (log (old.node n) s).kept ≡ [])
      → Changes old new n (record (old.node n) { reported = with_node n (old.node n).reported }) nothing → Move old new
  hears : (n m : ℕ) (l : Letter) → l.body ≡ Recovered → l.from ≡ m → IsReceivable old n l
      → Changes old new n (record (old.node n) { reported = with_node m (old.node n).reported }) nothing → Move old new
  commits : (n s : ℕ) (c : Current) → s < old.config.slots → (slot (old.node n) s).current ≡ Some c → write_cause (old.node n) s c.tx ≡ None
      → Changes old new n (committed (old.node n) s c (run_here (old.node n) c.tx)
      (without n (replicas_of (old.node n) (new_writes (old.node n) (run_here (old.node n) c.tx).writes)))
      (new_writes (old.node n) (run_here (old.node n) c.tx).writes)) nothing → Move old new

-- moves one after another
pub data Moves : SystemState → SystemState → Type 0 where
  none : (old new : SystemState) → Same old new → Moves old new
  next : (old mid new : SystemState) → Move old mid → Moves mid new → Moves old new
