-- Runs that differ in current transactions and in the book alone: streams, objects, copies and entries are the same.
use Rattle.std.specs.Prelude.{ℕ, ◌≡◌, ◌+◌, ◌-◌, false, nat_lt, List, Option, None, if◌then◌else◌}
use Rattle.std.proofs.Common.{refl, sym, ap, subst, ◌∙◌, inl, inr}
use Rattle.zeus_base.specs.declared.order.Stream.{Stream}
use Rattle.zeus_packet.specs.declared.write.Write.{Write}
use Rattle.zeus_model.specs.In.{In}
use Rattle.zeus_model.specs.Tables.{nth}
use Rattle.zeus_model.specs.State.{Node, no_entry, copy, owns, slot}
use Rattle.zeus_model.specs.Commit.{no_pending}
use Rattle.zeus_model.specs.Book.{Book}
use Rattle.zeus_model.specs.declared.state.Copy.{Copy}
use Rattle.machine_moves.specs.SystemState.{IsLive}
use Rattle.machine_moves.proofs.Steady.{IsSteady}
use Rattle.ownership_safety.specs.Object.{Object, HasGiven}
use Rattle.ownership_safety.specs.OwnershipInvariant.{OwnershipInvariant}
use Rattle.replication_safety.specs.StreamState.{StreamState, Has, Entry as Sent, Stores, kept_at}
use Rattle.replication_safety.specs.ReplicationInvariant.{ReplicationInvariant}
use Rattle.invariants.specs.Streams.{stream_state, about}
use Rattle.invariants.specs.Objects.{object, declared_entry, about as about_object}
use Rattle.invariants.proofs.StreamFrames.{IsQuiet, slots-quiet}
use Rattle.data_safety.specs.RunState.{RunState, Witness, place_now, pending_at, Lives, running}
use Rattle.data_safety.specs.DataInvariant.{DataInvariant, IsCopied, IsEntered, IsBooked, IsClean, IsNewer, IsRun, left, found_at}

-- a node that differs in current transactions alone
pub record IsTurn (before after : Node) : Type 0 where
  pub me : after.me ≡ before.me
  pub epoch : after.epoch ≡ before.epoch
  pub reported : after.reported ≡ before.reported
  pub stopped : after.stopped ≡ before.stopped
  pub entries : after.entries ≡ before.entries
  pub copies : after.copies ≡ before.copies
  pub gathers : after.gathers ≡ before.gathers
  pub logs : after.logs ≡ before.logs
  pub done : (s : ℕ) → (slot after s).done ≡ (slot before s).done
  pub pending : (s : ℕ) → (slot after s).pending ≡ (slot before s).pending

-- the run with other nodes and another book
abbrev pub turned : RunState → (ℕ → Node) → Book → RunState
turned y nodes book =
    record { system = record { config = y.system.config; views = y.system.views; node = nodes; letters = y.system.letters }; txs = y.txs; book = book }

module _ (y : RunState) (nodes : ℕ → Node) (book : Book) (q : (n : ℕ) → IsTurn (y.system.node n) (nodes n)) where
  quiet : (n : ℕ) (t : Stream) → IsQuiet (y.system.node n) (nodes n) t n
  quiet n t =
      slots-quiet (y.system.node n) (nodes n) t n (q n).stopped (q n).epoch (q n).reported (q n).logs (λ _. ((q n).done t.slot, (q n).pending t.slot))

  -- if nodes differ in current transactions alone, then each stream is the same
  pub turned-stream : (t : Stream) → stream_state (turned y nodes book).system t ≡ stream_state y.system t
  unfolding stream_state
  turned-stream t = λ i. record {
    home = t.node;
    views = y.system.views;
    stopped = λ n. (q n).stopped i;
    epoch = λ n. (q n).epoch i;
    reported = λ n. (q n).reported i;
    done = λ n. (quiet n t).done i;
    kept = λ n. (quiet n t).kept i;
    letters = about t y.system.letters;
  }

  -- if nodes differ in current transactions alone, then each object is the same
  pub turned-object : (x : ℕ) → object (turned y nodes book).system x ≡ object y.system x
  unfolding object
  turned-object x = λ i. record {
    directory = y.system.config.directory;
    declared = (declared_entry y.system.config x).place;
    views = y.system.views;
    stopped = λ n. (q n).stopped i;
    epoch = λ n. (q n).epoch i;
    entry = λ n. if nat_lt n y.system.config.nodes then nth no_entry ((q n).entries i) x else declared_entry y.system.config x;
    gather = λ n. if nat_lt n y.system.config.nodes then nth None ((q n).gathers i) x else None;
    letters = about_object x y.system.letters;
  }

  -- if nodes differ in current transactions alone, then each pending entry is the same
  pub turned-pending : (t : Stream) (k : ℕ) → pending_at (turned y nodes book) t k ≡ pending_at y t k
  turned-pending t k = λ i. nth no_pending ((q t.node).pending t.slot i) (k - (q t.node).done t.slot i)

  turned-copy : (n x : ℕ) → copy (nodes n) x ≡ copy (y.system.node n) x
  turned-copy n x = ap (λ (c : List (Option Copy)). nth None c x) (q n).copies

  turned-place : (u : Witness) (x : ℕ) → place_now (turned y nodes book) u x ≡ place_now y u x
  turned-place u x = ap (λ (o : Object). Rattle.ownership_safety.specs.Object.latest o (u.chain x)) (turned-object x)

  turned-owns : (n x : ℕ) → owns (nodes n) x ≡ owns (y.system.node n) x
  unfolding owns
  turned-owns n x = rw ((q n).entries, (q n).me) refl

  was_live : (n : ℕ) → (nodes n).stopped ≡ false → IsLive y.system n
  was_live n live = sym ((q n).stopped) ∙ live

  module _ (u : Witness) (f : DataInvariant y u) (same : left (turned y nodes book) ≡ left y) where
    was_alive : (t : Stream) (k : ℕ) → Lives (turned y nodes book) u t k → Lives y u t k
    was_alive t k alive = subst (λ (l : StreamState). Rattle.replication_safety.specs.StreamState.IsAlive l (u.passed t) k) (turned-stream t) alive

    turned-clean : (x : ℕ) → IsClean y u x → IsClean (turned y nodes book) u x
    unfolding IsClean
    turned-clean x clean t k alive m = clean t k (was_alive t k alive) (rw (turned-pending t k) at m)

    turned-found : (t : Stream) (k : ℕ) → found_at (turned y nodes book) u t k ≡ found_at y u t k
    unfolding found_at
    turned-found t k = λ i. running (same i) (λ j. (turned-pending t (u.passed t + j) i).writes) (k - u.passed t)

    -- ---- copies

    turned-newer : (n x : ℕ) (c : Copy) → IsNewer y u n x c → IsNewer (turned y nodes book) u n x c
    turned-newer n x c newer =
        let w = newer.written in
        record {
          above = rw same newer.above;
          not_valid = newer.not_valid;
          written = (
            w.0,
            w.1,
            w.2,
            subst (λ (l : StreamState). Has l n w.1) (sym (turned-stream w.0)) w.3,
            subst (λ (l : StreamState). In {A = Write} record { obj = x; ver = c.ver; value = c.value } (kept_at l n w.1).writes) (sym (turned-stream w.0)) w.4,
          );
        }

    -- if nodes differ in current transactions alone and the history leaves the same, then what holds of copies still holds
    pub turned-copied : IsCopied (turned y nodes book) u
    turned-copied = record {
      placed = λ n x within live. rw (turned-copy n x, turned-place u x) (f.copied.placed n x within (was_live n live));
      content = λ n x c within live is. elim (f.copied.content n x c within (was_live n live) (sym (turned-copy n x) ∙ is)) [
        | inl at_left ↦ inl (rw same at_left)
        | inr newer ↦ inr (turned-newer n x c newer)
      ];
      taken = λ n t k w c within live had above i is.
          f.copied.taken n t k w c within (was_live n live) (subst (λ (l : StreamState). Has l n k) (turned-stream t) had) above
          (subst (λ (l : StreamState). In w (kept_at l n k).writes) (turned-stream t) i) (sym (turned-copy n w.obj) ∙ is);
    }

    -- ---- entries

    turned-run : (t : Stream) (k : ℕ) → IsRun y u t k → IsRun (turned y nodes book) u t k
    turned-run t k is = record { reply = rw (turned-found t k, turned-pending t k) is.reply; writes = rw (turned-found t k, turned-pending t k) is.writes }

    -- if nodes differ in current transactions alone and the history leaves the same, then what holds of entries still holds
    pub turned-entered : IsEntered (turned y nodes book) u
    turned-entered = record {
      home = λ t i inside. f.entered.home t i (rw ((q t.node).pending t.slot) at inside);
      owner = λ t k x alive m. rw (turned-place u x) (f.entered.owner t k x (was_alive t k alive) (rw (turned-pending t k) at m));
      followed = λ t k g w alive i h. rw (turned-pending t k) (f.entered.followed t k g w (was_alive t k alive) (rw (turned-pending t k) at i) (rw (turned-place u w.obj) at h));
      serial = λ t k alive. turned-run t k (f.entered.serial t k (was_alive t k alive));
      apart = λ n s r i j x ne ii jj m l.
          f.entered.apart n s r i j x ne (rw ((q n).pending s) at ii) (rw ((q n).pending r) at jj) (rw ((q n).pending s) at m) (rw ((q n).pending r) at l);
      owned = λ n s i x live inside m. rw (turned-owns n x) (f.entered.owned n s i x (was_live n live) (rw ((q n).pending s) at inside) (rw ((q n).pending s) at m));
      given = λ n x e p c within g last.
          let was = f.entered.given n x e p c within (subst (λ (o : Object). HasGiven o n p c e) (turned-object x) g) last in
          (turned-clean x was.0, rw same was.1);
      low = λ t from to e k d i w m below inside.
          rw same (f.entered.low t from to e k d i w (subst (λ (l : StreamState). In (Stores from to e k d i) l.letters) (turned-stream t) m) below inside);
    }

    -- the data invariant holds if that of the book does
    pub turned-invariant : IsSteady (turned y nodes book).system → IsBooked (turned y nodes book) u → DataInvariant (turned y nodes book) u
    turned-invariant steady booked = record {
      limits = f.limits;
      steady = steady;
      ownership = λ x within. subst (λ (o : Object). OwnershipInvariant o (u.chain x)) (sym (turned-object x)) (f.ownership x within);
      replication = λ t. subst (λ (l : StreamState). ReplicationInvariant l (u.passed t)) (sym (turned-stream t)) (f.replication t);
      copied = turned-copied;
      entered = turned-entered;
      booked = booked;
    }
