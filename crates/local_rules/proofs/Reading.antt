-- What follows from a try to read, at the whole node.
use Rattle.std.proofs.Common.{ℕ, ◌≡◌, ◌≤◌, List, [], Option, Some, None, length, refl, sym, ap, ◌∙◌}
use Rattle.zeus_packet.specs.declared.letter.State.{State}
use Rattle.zeus_txn.specs.declared.ops.Op.{Op}
use Rattle.zeus_txn.specs.declared.reply.Reply.{Reply}
use Rattle.zeus_model.specs.declared.answer.Tried.{Tried}
use Rattle.zeus_model.specs.declared.answer.Tried.TheVariants as rules
use Rattle.zeus_model.specs.declared.state.Current.{Current}
use Rattle.zeus_model.specs.Local.{Hindrance, hindrance, read_missing, read_row, with_current}
use Rattle.zeus_model.specs.Local as local
use Rattle.zeus_model.specs.State.{Node, slot}
use Rattle.node_ranges.specs.Ranges.{FitsCurrent, limits_of}
use Rattle.replica_reads.specs.Reads.{read_told}
use Rattle.replica_reads.specs.declared.reads.ReadTry.{ReadTry}
use Rattle.replica_reads.specs.declared.reads.ReadTry.TheVariants.{NoCopy, NotValid, Read}
use Rattle.node_state.specs.declared.effect.Effect.{Effect}
use Rattle.node_state.specs.Done.{Adds, IsDone}
use Rattle.node_state.specs.EffectLaws.{adds_nothing}
use Rattle.node_state.specs.Requests.{requests_for_copies}
use Rattle.node_state.specs.SlotTries.{IsReadTried}

-- no transaction fits
pub none_fits : (n : Node) → FitsCurrent (limits_of n) None
unfolding FitsCurrent
none_fits n = tt

-- ---- an object of which the node has no copy

-- if there is no degree, then a read of an object without a copy is refused and its transaction ends
pub missing-refused : (n m : Node) (s : ℕ) (c : Current) (x : ℕ) (degree : Option ℕ) (out : Effect) → degree ≡ None → m ≡ with_current n s None → length out.sent ≤ 64 → IsDone (read_missing n s c x degree) (rules.NoCopy c.id x) m out out
unfolding read_missing
missing-refused n m s c x degree out none becomes room = rw none record { says = refl; becomes = becomes; adds = adds_nothing out room }

-- if there is a degree, then a read of an object without a copy asks for copies and its transaction stays
pub missing-asked : (n : Node) (s : ℕ) (c : Current) (x d : ℕ) (degree : Option ℕ) (a b : Effect) → degree ≡ Some d → (slot n s).current ≡ Some c → Adds (requests_for_copies n (slot n s).current) [] a b → IsDone (read_missing n s c x degree) (rules.NoCopy c.id x) n a b
unfolding read_missing requests_for_copies
missing-asked n s c x d degree a b some current adds = rw some record { says = refl; becomes = refl; adds = rw current at adds }

-- ---- what the answer says of what hindered it

missing_told : (o : Option Hindrance) (reply : Reply) (x : ℕ) → NoCopy x ≡ read_told o reply → o ≡ Some (local.Missing x)
unfolding read_told
missing_told (Some (local.Missing y)) reply x e = cc
missing_told (Some (local.Unready y state)) reply x e = cc
missing_told None reply x e = cc

unready_told : (o : Option Hindrance) (reply : Reply) (x : ℕ) (state : State) → NotValid x state ≡ read_told o reply → o ≡ Some (local.Unready x state)
unfolding read_told
unready_told (Some (local.Missing y)) reply x state e = cc
unready_told (Some (local.Unready y other)) reply x state e = cc
unready_told None reply x state e = cc

none_told : (o : Option Hindrance) (reply r : Reply) → Read r ≡ read_told o reply → o ≡ None
unfolding read_told
none_told (Some (local.Missing y)) reply r e = cc
none_told (Some (local.Unready y state)) reply r e = cc
none_told None reply r e = refl

reply_told : (o : Option Hindrance) (reply r : Reply) → Read r ≡ read_told o reply → r ≡ reply
unfolding read_told
reply_told (Some (local.Missing y)) reply r e = cc
reply_told (Some (local.Unready y state)) reply r e = cc
reply_told None reply r e = cc

-- ---- the rows

module _ (n m : Node) (s id : ℕ) (t : ReadTry) (h : IsReadTried n s id t m) where
  pub read-missing : (x : ℕ) (answer : Tried) (k : Node) (a b : Effect) → t ≡ NoCopy x → ((tx : List Op) → (slot m s).current ≡ Some (record { id = id; tx = tx }) → IsDone (read_missing m s (record { id = id; tx = tx }) x m.degree) answer k a b) → IsDone (read_row n s (record { id = id; tx = h.tx }) (hindrance n h.tx)) answer k a b
  unfolding read_row
  read-missing x answer k a b e done =
      rw (missing_told (hindrance n h.tx) _ x (sym e ∙ h.told)) ((rw h.stays at done) h.tx h.current)

  pub read-unready : (x : ℕ) (state : State) (out : Effect) → t ≡ NotValid x state → length out.sent ≤ 64 → IsDone (read_row n s (record { id = id; tx = h.tx }) (hindrance n h.tx)) (rules.NotValid x state) m out out
  unfolding read_row
  read-unready x state out e room =
      rw (unready_told (hindrance n h.tx) _ x state (sym e ∙ h.told)) record { says = refl; becomes = h.stays; adds = adds_nothing out room }

  pub read-done : (reply : Reply) (k : Node) (out : Effect) → t ≡ Read reply → k ≡ with_current m s None → length out.sent ≤ 64 → IsDone (read_row n s (record { id = id; tx = h.tx }) (hindrance n h.tx)) (rules.Read id reply) k out out
  unfolding read_row
  read-done reply k out e becomes room =
      rw (none_told (hindrance n h.tx) _ reply (sym e ∙ h.told))
      record {
        says = ap (rules.Read id) (reply_told (hindrance n h.tx) _ reply (sym e ∙ h.told));
        becomes = becomes ∙ ap (λ (l : Node). with_current l s None) h.stays;
        adds = adds_nothing out room;
      }
