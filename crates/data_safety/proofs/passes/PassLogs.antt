-- Moves that change the stored entries of one stream at one node alone.
use Rattle.std.specs.Prelude.{ℕ, zero, suc, ◌≡◌, ◌≢◌, ◌+◌, ◌-◌, ◌<◌, ◌≤◌, List, [], ◌∷◌, take, length, Option, None}
use Rattle.std.proofs.Common.{arith, refl, sym, ap, ◌∙◌, inl, inr}
use Rattle.zeus_base.specs.declared.order.Stream.{Stream}
use Rattle.zeus_packet.specs.declared.write.Write.{Write}
use Rattle.zeus_model.specs.In.{In}
use Rattle.zeus_model.specs.Tables.{nth}
use Rattle.zeus_model.specs.State.{Node, Slot, no_slot, no_entry, slot, owns}
use Rattle.zeus_model.specs.Commit.{no_kept, no_pending, writes_of}
use Rattle.zeus_model.specs.declared.state.Entry.{Entry}
use Rattle.zeus_model.specs.declared.state.Gather.{Gather}
use Rattle.zeus_model.specs.declared.state.Kept.{Kept}
use Rattle.zeus_model.specs.InLaws.{In-append}
use Rattle.machine_moves.specs.SystemState.{SystemState, IsLive, Changes, nothing}
use Rattle.machine_moves.proofs.Steady.{IsNumbered-steady}
use Rattle.replication_safety.specs.StreamState.{Has, end, kept_at, entry_of}
use Rattle.invariants.specs.Streams.{stream_state}
use Rattle.invariants.proofs.StreamFrames.{stream-home}
use Rattle.invariants.proofs.ObjectSeen.{same_or_not}
use Rattle.data_safety.specs.RunState.{RunState, Witness}
use Rattle.data_safety.specs.DataInvariant.{DataInvariant, left}
use Rattle.data_safety.proofs.Consequences.{home-end}
use Rattle.data_safety.proofs.stores.EntriesShrink.{EntriesShrink, StreamGoes, still-objects}

-- a change of a node that leaves its slots and placements
pub record KeepsSlots (before after : Node) : Type 0 where
  pub slots : after.slots ≡ before.slots
  pub entries : after.entries ≡ before.entries
  pub gathers : after.gathers ≡ before.gathers
  pub stopped : after.stopped ≡ before.stopped
  pub epoch : after.epoch ≡ before.epoch
  pub me : after.me ≡ before.me

owns-same : (m n : Node) (x : ℕ) → m.entries ≡ n.entries → m.me ≡ n.me → owns m x ≡ owns n x
unfolding owns
owns-same m n x entries me = rw (entries, me) refl

-- if the node that changes keeps its slots, then every slot is as before
pub kept-slots : (old new : SystemState) (n m r : ℕ) (after : Node) → Changes old new n after nothing → KeepsSlots (old.node n) after → slot (new.node m) r ≡ slot (old.node m) r
kept-slots old new n m r after c k = elim (same_or_not m n) [
  | inl same ↦ rw same (ap (λ (j : Node). slot j r) c.node ∙ ap (λ (l : List Slot). nth no_slot l r) k.slots)
  | inr other ↦ ap (λ (j : Node). slot j r) (c.others m other)
]

-- if the node that changes keeps its placements, then every node owns what it owned
pub kept-owns : (old new : SystemState) (n m x : ℕ) (after : Node) → Changes old new n after nothing → KeepsSlots (old.node n) after → owns (new.node m) x ≡ owns (old.node m) x
kept-owns old new n m x after c k = elim (same_or_not m n) [
  | inl same ↦ rw same (ap (λ (j : Node). owns j x) c.node ∙ owns-same after (old.node n) x k.entries k.me)
  | inr other ↦ ap (λ (j : Node). owns j x) (c.others m other)
]

-- if one node changes, then each node that is live after it was live before
pub kept-live : (old new : SystemState) (n m : ℕ) (after : Node) → Changes old new n after nothing → IsLive new m → IsLive old m
kept-live old new n m after c live = elim (same_or_not m n) [
  | inl same ↦ rw same c.live
  | inr other ↦ ap (λ (k : Node). k.stopped) (sym (c.others m other)) ∙ live
]

-- if the node that changes keeps its slots, then the end of each stream stays
pub kept-end : (old new : SystemState) (n : ℕ) (after : Node) (t : Stream) → Changes old new n after nothing → KeepsSlots (old.node n) after → end (stream_state new t) ≡ end (stream_state old t)
kept-end old new n after t c k =
    home-end new t ∙ ap (λ (l : Slot). l.done + length l.pending) (kept-slots old new n t.node t.slot after c k) ∙ sym (home-end old t)

-- if a node changes its stored streams alone and nothing new can pass, then entries only go
pub shrink-logs : (y z : RunState) (u : Witness) (passed : Stream → ℕ) (n : ℕ) (after : Node) → DataInvariant y u → Changes y.system z.system n after nothing → KeepsSlots (y.system.node n) after
    → z.txs ≡ y.txs → ((t : Stream) → StreamGoes (stream_state y.system t) (stream_state z.system t) (u.passed t) (passed t)) → EntriesShrink y z u record { chain = u.chain; passed = passed }
shrink-logs y z u passed n after f c k txs streams = record {
  config = c.config;
  views = c.views;
  txs = txs;
  live = λ m. kept-live y.system z.system n m after c;
  owning = λ m x. kept-owns y.system z.system n m x after c k;
  objects = still-objects y.system z.system u passed n after (IsNumbered-steady y.system f.steady) c
      (λ x. record {
        stopped = k.stopped;
        epoch = k.epoch;
        entry = ap (λ (es : List Entry). nth no_entry es x) k.entries;
        gather = ap (λ (gs : List (Option Gather)). nth None gs x) k.gathers;
      }) f.ownership;
  streams = streams;
  entry = λ t j above. ap (λ (l : Slot). nth no_pending l.pending (j - l.done)) (kept-slots y.system z.system n t.node t.slot after c k);
  was = λ m r i inside.
      let same = kept-slots y.system z.system n m r after c k in
      let inside' : i < length (slot (y.system.node m) r).pending = rw same at inside in
      (i, inside', ap (λ (l : Slot). nth no_pending l.pending i) same, ap (λ (l : Slot). l.done + i) same);
  current = λ m r. ap (λ (l : Slot). l.current) (kept-slots y.system z.system n m r after c k);
  ends = λ t. kept-end y.system z.system n after t c k;
}

-- ---- writes of stored entries

-- a write among those of the front of a list of entries is one of an entry there
pub writes_of-in : (m : ℕ) (ks : List Kept) (w : Write) → In w (writes_of (take m ks)) → (i : ℕ) × (i < m) × (i < length ks) × In w (nth no_kept ks i).writes
unfolding writes_of nth
writes_of-in zero ks w i = elim i [ ]
writes_of-in (suc m) [] w i = elim i [ ]
writes_of-in (suc m) (k ∷ ks) w i = elim (In-append w k.writes (writes_of (take m ks)) i) [
  | inl first ↦ (0, omega arith, omega arith, first)
  | inr later ↦ let rest = writes_of-in m ks w later in (suc rest.0, omega (arith, rest.1), omega (arith, rest.2), rest.3)
]

-- a stored entry that has passed is not above the history
pub kept-low : (y : RunState) (u : Witness) (t : Stream) (n k : ℕ) (w : Write) → DataInvariant y u → Has (stream_state y.system t) n k → n ≢ t.node → k < u.passed t
    → In w (kept_at (stream_state y.system t) n k).writes → w.ver ≤ (left y w.obj).ver
kept-low y u t n k w f h foreign below i =
    let o = (f.replication t).from_letters n k h (λ e. foreign (e ∙ stream-home y.system t)) in
    f.entered.low t o.0 n o.1 k o.2 (entry_of (kept_at (stream_state y.system t) n k)) w o.3 below i
