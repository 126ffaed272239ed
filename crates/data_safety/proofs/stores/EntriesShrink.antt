-- Moves that only take entries away: what they leave of the entries, and what holds of them after it.
use Rattle.std.specs.Prelude.{ℕ, ◌≡◌, ◌+◌, ◌<◌, ◌≤◌, true, List, [], length}
use Rattle.std.proofs.Common.{arith, refl, sym, ap, ◌∙◌, inl, inr}
use Rattle.zeus_base.specs.Nodes.{has}
use Rattle.zeus_base.specs.declared.order.Stream.{Stream}
use Rattle.zeus_packet.specs.declared.place.Place.{Place}
use Rattle.zeus_packet.specs.declared.place.Proposal.{Proposal}
use Rattle.zeus_packet.specs.declared.write.Content.{Content}
use Rattle.zeus_packet.specs.declared.write.Write.{Write}
use Rattle.zeus_txn.specs.Ops.{mentions}
use Rattle.zeus_model.specs.In.{In}
use Rattle.zeus_model.specs.Tables.{nth}
use Rattle.zeus_model.specs.State.{Node, slot, owns}
use Rattle.zeus_model.specs.Commit.{no_pending}
use Rattle.zeus_model.specs.declared.state.Pending.{Pending}
use Rattle.machine_moves.specs.SystemState.{SystemState, IsLive, IsNumbered, Changes, nothing}
use Rattle.ownership_safety.specs.Object.{HasGiven, latest}
use Rattle.ownership_safety.specs.OwnershipInvariant.{OwnershipInvariant}
use Rattle.ownership_safety.proofs.KeepsGathers as gathers
use Rattle.replication_safety.specs.StreamState.{StreamState, Letter as Said, Entry, Stores, Has, IsAlive, end, kept_at}
use Rattle.replication_safety.specs.Moves as moves
use Rattle.replication_safety.specs.ReplicationInvariant.{ReplicationInvariant}
use Rattle.replication_safety.proofs.Alive.{alive_Tells}
use Rattle.replication_safety.proofs.Drops.{Drops, drops-grows, drops-has_before, drops-kept_at}
use Rattle.replication_safety.proofs.Entries.{has-stays}
use Rattle.replication_safety.proofs.Letters.{keeps_Tells, tells-kept}
use Rattle.replication_safety.proofs.Same.{SameKept, same-has, same-has_before, same-kept_at}
use Rattle.invariants.specs.Streams.{stream_state}
use Rattle.invariants.specs.Objects.{object}
use Rattle.invariants.proofs.Frames.{IsQuiet}
use Rattle.invariants.proofs.StreamFrames as streams
use Rattle.invariants.proofs.StreamSeen.{quiet_sends}
use Rattle.invariants.proofs.ObjectMoves as objects
use Rattle.data_safety.specs.RunState.{RunState, Witness, pending_at, Lives}
use Rattle.data_safety.specs.DataInvariant.{DataInvariant, IsEntered, IsClean, left, found_at}
use Rattle.data_safety.proofs.Consequences.{lives-named}
use Rattle.data_safety.proofs.history.SerialRun.{IsRun-agree}

-- ---- a stream from which entries are taken

-- nothing new can pass, and nothing is said
pub record StreamGoes (old new : StreamState) (passed now : ℕ) : Type 0 where
  pub replication : ReplicationInvariant new now
  pub rises : passed ≤ now
  pub alive : (k : ℕ) → IsAlive new now k → IsAlive old passed k
  pub stays : (m k : ℕ) → now ≤ k → Has old m k → Has new m k
  pub letters : (l : Said) → In l new.letters → In l old.letters

-- and nothing is kept that was not
pub record ShrunkStream (old new : StreamState) (passed now : ℕ) : Type 0 where
  pub goes : StreamGoes old new passed now
  pub had : (m k : ℕ) → Has new m k → Has old m k
  pub same : (m k : ℕ) → Has new m k → kept_at new m k ≡ kept_at old m k

-- if no letter is allowed, then each letter was there before
pub none_new : (old new : StreamState) → moves.Sends old new moves.nothing → (l : Said) → In l new.letters → In l old.letters
none_new old new s l i = elim (s.only l i) [ inl before ↦ before | inr now ↦ absurd now ]

-- if a node drops entries at its front and no new entry can pass, then the stream has shrunk
pub shrunk-drops : (old new : StreamState) (passed now n d : ℕ) → Drops old new n d → ReplicationInvariant new now → passed ≤ now
    → ((k : ℕ) → IsAlive new now k → IsAlive old passed k) → ShrunkStream old new passed now
shrunk-drops old new passed now n d s r rises alive =
    record {
      goes = record {
        replication = r;
        rises = rises;
        alive = alive;
        stays = λ m k. has-stays old new now m k (drops-grows old new n d s) r;
        letters = none_new old new s.acts.sends;
      };
      had = λ m k. drops-has_before old new n d m k s;
      same = λ m k. drops-kept_at old new n d m k s;
    }

-- a stream that sees nothing of the move
pub shrunk-quiet : (old new : SystemState) (t : Stream) (passed n : ℕ) (after : Node) → ReplicationInvariant (stream_state old t) passed → Changes old new n after nothing
    → streams.IsQuiet (old.node n) after t n → ShrunkStream (stream_state old t) (stream_state new t) passed passed
shrunk-quiet old new t passed n after r c q =
    let tells : moves.Tells (stream_state old t) (stream_state new t) n = streams.tells_stream old new t n after nothing c q (λ l m none i. absurd none) in
    let kept : SameKept (stream_state old t) (stream_state new t) = tells-kept (stream_state old t) (stream_state new t) n tells in
    record {
      goes = record {
        replication = keeps_Tells (stream_state old t) (stream_state new t) passed n r tells;
        rises = omega arith;
        alive = λ k. alive_Tells (stream_state old t) (stream_state new t) passed passed k n tells (omega arith);
        stays = λ m k above. same-has (stream_state old t) (stream_state new t) m k kept;
        letters = none_new (stream_state old t) (stream_state new t) (quiet_sends old new t n after c);
      };
      had = λ m k. same-has_before (stream_state old t) (stream_state new t) m k kept;
      same = λ m k h. same-kept_at (stream_state old t) (stream_state new t) m k kept;
    }

-- ---- objects that see nothing of the move

-- objects keep their placements, and a content that was given after the move was given before
pub record StillObjects (old new : SystemState) (u v : Witness) : Type 0 where
  pub ownership : (x : ℕ) → x < length new.config.objects → OwnershipInvariant (object new x) (v.chain x)
  pub place : (x : ℕ) → latest (object new x) (v.chain x) ≡ latest (object old x) (u.chain x)
  pub given : (x n e : ℕ) (p : Proposal) (c : Content) → HasGiven (object new x) n p c e → HasGiven (object old x) n p c e
  pub chain : (x : ℕ) → v.chain x ≡ u.chain x

-- if a node changes without a letter and quietly for every object, then objects stay as they are
pub still-objects : (old new : SystemState) (u : Witness) (passed : Stream → ℕ) (n : ℕ) (after : Node) → IsNumbered old → Changes old new n after nothing
    → ((x : ℕ) → IsQuiet (old.node n) after x) → ((x : ℕ) → x < length old.config.objects → OwnershipInvariant (object old x) (u.chain x))
    → StillObjects old new u record { chain = u.chain; passed = passed }
still-objects old new u passed n after numbered c q ownership =
    let tells = λ (x : ℕ). objects.quiet_object old new x n after numbered c (q x).stopped (q x).epoch (q x).entry (q x).gather in
    record {
      ownership = λ x within. gathers.keeps_Tells (object old x) (object new x) n (tells x) (u.chain x) (ownership x (rw c.config at within));
      place = λ x. place_same old new x (u.chain x) n after numbered c (q x);
      given = λ x m e p co g.
          let s = objects.quiet_sends old new x n after c in
          (g.0, elim (s.only _ g.1) [ inl before ↦ before | inr now ↦ absurd now ]);
      chain = λ x. refl;
    }
  where
    place_same : (old new : SystemState) (x : ℕ) (chain : List Proposal) (n : ℕ) (after : Node) → IsNumbered old → Changes old new n after nothing → IsQuiet (old.node n) after x
        → latest (object new x) chain ≡ latest (object old x) chain
    place_same old new x chain n after numbered c q =
        let setting = objects.same_setting old new x c.config c.views in
        ap (λ (p : Place). Rattle.ownership_safety.specs.Object.chain_place p chain (length chain)) setting.declared

-- ---- a run from which entries are taken

-- a move that only takes entries away: objects, transactions and owners stay, and no node comes to life
pub record EntriesShrink (y z : RunState) (u v : Witness) : Type 0 where
  pub config : z.system.config ≡ y.system.config
  pub views : z.system.views ≡ y.system.views
  pub txs : z.txs ≡ y.txs
  pub live : (n : ℕ) → IsLive z.system n → IsLive y.system n
  pub owning : (n x : ℕ) → owns (z.system.node n) x ≡ owns (y.system.node n) x
  pub objects : StillObjects y.system z.system u v
  pub streams : (t : Stream) → StreamGoes (stream_state y.system t) (stream_state z.system t) (u.passed t) (v.passed t)
  pub entry : (t : Stream) (k : ℕ) → v.passed t ≤ k → pending_at z t k ≡ pending_at y t k
  pub was : (n s i : ℕ) → i < length (slot (z.system.node n) s).pending
      → (j : ℕ) × (j < length (slot (y.system.node n) s).pending) × (nth no_pending (slot (z.system.node n) s).pending i ≡ nth no_pending (slot (y.system.node n) s).pending j)
      × ((slot (z.system.node n) s).done + i ≡ (slot (y.system.node n) s).done + j)
  pub current : (n s : ℕ) → (slot (z.system.node n) s).current ≡ (slot (y.system.node n) s).current
  pub ends : (t : Stream) → end (stream_state z.system t) ≡ end (stream_state y.system t)

-- what such a move owes for the contents
pub record ShrinkLeft (y z : RunState) (u v : Witness) : Type 0 where
  pub found : (t : Stream) (k x : ℕ) → Lives z v t k → mentions x (pending_at y t k).named ≡ true → found_at z v t k x ≡ found_at y u t k x
  pub clean : (x : ℕ) → IsClean y u x → left z x ≡ left y x
  pub low : (t : Stream) (from to e k d : ℕ) (i : Entry) (w : Write) → In (Stores from to e k d i) (stream_state y.system t).letters → k < v.passed t
      → In w i.writes → w.ver ≤ (left z w.obj).ver

-- an entry that can still pass is not below what has passed
pub lives-above : (z : RunState) (v : Witness) (t : Stream) (k : ℕ) → Lives z v t k → v.passed t ≤ k
unfolding IsAlive
lives-above z v t k alive = alive.0

-- if entries only go, then an object that was clean is still clean
pub shrink-clean : (y z : RunState) (u v : Witness) (x : ℕ) → EntriesShrink y z u v → IsClean y u x → IsClean z v x
unfolding IsClean
shrink-clean y z u v x s clean t k alive m = clean t k ((s.streams t).alive k alive) (rw (← s.entry t k (lives-above z v t k alive)) m)

-- if entries only go and what they find stays, then what holds of entries still holds
pub shrink-entered : (y z : RunState) (u v : Witness) → DataInvariant y u → EntriesShrink y z u v → ShrinkLeft y z u v → IsEntered z v
shrink-entered y z u v f s l =
    record {
      home = λ t i inside.
          let w = s.was t.node t.slot i inside in
          ap (λ (vs : List (List ℕ)). has t.node (nth [] vs 0)) s.views ∙ f.entered.home t w.0 w.1;
      owner = λ t k x alive m.
          f.entered.owner t k x ((s.streams t).alive k alive) (rw (← s.entry t k (lives-above z v t k alive)) m) ∙ ap (λ (p : Place). p.owner) (sym (s.objects.place x));
      followed = λ t k g w alive i h.
          let e : pending_at z t k ≡ pending_at y t k = s.entry t k (lives-above z v t k alive) in
          let before = f.entered.followed t k g w ((s.streams t).alive k alive) (rw (← e) i) (ap (λ (p : Place). has g p.replicas) (sym (s.objects.place w.obj)) ∙ h) in
          elim before [ inl follows ↦ inl (ap (λ (p : Pending). has g p.followers) e ∙ follows) | inr own ↦ inr own ];
      serial = λ t k alive.
          let old_alive : Lives y u t k = (s.streams t).alive k alive in
          IsRun-agree y z u v t k (s.entry t k (lives-above z v t k alive)) s.txs
          (λ x m. l.found t k x alive (rw (lives-named y u f t k old_alive) m)) (f.entered.serial t k old_alive);
      apart = λ n a b i j x ne one two m g.
          let p = s.was n a i one in
          let q = s.was n b j two in
          f.entered.apart n a b p.0 q.0 x ne p.1 q.1 (rw p.2 at m) (rw q.2 at g);
      owned = λ n a i x live inside m.
          let p = s.was n a i inside in
          s.owning n x ∙ f.entered.owned n a p.0 x (s.live n live) p.1 (rw p.2 at m);
      given = λ n x e p c within g base.
          let before = f.entered.given n x e p c (rw s.config at within) (s.objects.given x n e p c g) (base ∙ ap length (s.objects.chain x)) in
          (shrink-clean y z u v x s before.0, before.1 ∙ sym (l.clean x before.0));
      low = λ t from to e k d i w m below there_is. l.low t from to e k d i w ((s.streams t).letters (Stores from to e k d i) m) below there_is;
    }
