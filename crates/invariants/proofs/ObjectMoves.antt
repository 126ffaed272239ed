-- How each move of the machine looks to one object.
use Rattle.std.specs.Prelude.{ℕ, ◌≡◌, ◌≢◌, ◌<◌, nat_lt, false, Option, None, if◌then◌else◌}
use Rattle.std.proofs.Common.{refl, sym, ap, ◌∙◌}
use Rattle.zeus_base.specs.declared.config.Config.{Config}
use Rattle.zeus_packet.specs.declared.letter.Letter.{Letter}
use Rattle.zeus_model.specs.In.{In}
use Rattle.zeus_model.specs.State.{Node, entry, gather}
use Rattle.zeus_model.specs.declared.state.Entry.{Entry}
use Rattle.zeus_model.specs.declared.state.Gather.{Gather}
use Rattle.machine_moves.specs.SystemState.{SystemState, IsLive, IsNumbered, Changes, nothing}
use Rattle.ownership_safety.specs.Object.{Validates, Letter as Said}
use Rattle.ownership_safety.specs.Moves as moves
use Rattle.invariants.specs.Objects.{object, declared_entry}
use Rattle.invariants.proofs.AboutObjects.{says, object-entry, object-gather, sends_object}

-- an entry as the object sees it
unfoldable entry_as : Config → Node → ℕ → ℕ → Entry
entry_as c n x m = if nat_lt m c.nodes then entry n x else declared_entry c x

unfoldable gather_as : Config → Node → ℕ → ℕ → Option Gather
gather_as c n x m = if nat_lt m c.nodes then gather n x else None

object-entry_as : (s : SystemState) (x m : ℕ) → (object s x).entry m ≡ entry_as s.config (s.node m) x m
unfolding object entry_as
object-entry_as s x m = refl

object-gather_as : (s : SystemState) (x m : ℕ) → (object s x).gather m ≡ gather_as s.config (s.node m) x m
unfolding object gather_as
object-gather_as s x m = refl

-- if configuration and node stay, then so does the object's entry there
pub same_entry_as : (old new : SystemState) (x m : ℕ) → new.config ≡ old.config → new.node m ≡ old.node m → (object new x).entry m ≡ (object old x).entry m
same_entry_as old new x m c n = rw (object-entry_as, c, n, ← object-entry_as) refl

-- if configuration and node stay, then so does the object's gather there
pub same_gather_as : (old new : SystemState) (x m : ℕ) → new.config ≡ old.config → new.node m ≡ old.node m → (object new x).gather m ≡ (object old x).gather m
same_gather_as old new x m c n = rw (object-gather_as, c, n, ← object-gather_as) refl

-- what does not depend on the nodes stays
pub same_setting : (old new : SystemState) (x : ℕ) → new.config ≡ old.config → new.views ≡ old.views → moves.SameSetting (object old x) (object new x)
unfolding object
same_setting old new x c v = record {
  directory = ap (λ (k : Config). k.directory) c;
  declared = ap (λ (k : Config). (declared_entry k x).place) c;
  views = v;
}

-- if a node is stopped as before, then the object sees it so
pub same_stopped : (old new : SystemState) (x m : ℕ) → (new.node m).stopped ≡ (old.node m).stopped → (object new x).stopped m ≡ (object old x).stopped m
unfolding object
same_stopped old new x m e = e

-- if a node is in the epoch it was in, then the object sees it so
pub same_epoch : (old new : SystemState) (x m : ℕ) → (new.node m).epoch ≡ (old.node m).epoch → (object new x).epoch m ≡ (object old x).epoch m
unfolding object
same_epoch old new x m e = e

-- if all nodes but one stay, then all nodes but that one stay as the object sees them
pub same_others : (old new : SystemState) (x n : ℕ) → new.config ≡ old.config → ((m : ℕ) → m ≢ n → new.node m ≡ old.node m)
    → moves.SameOthers (object old x) (object new x) n
same_others old new x n c others = record {
  stopped = λ m ne. same_stopped old new x m (ap (λ (k : Node). k.stopped) (others m ne));
  epoch = λ m ne. same_epoch old new x m (ap (λ (k : Node). k.epoch) (others m ne));
  entry = λ m ne. same_entry_as old new x m c (others m ne);
  gather = λ m ne. same_gather_as old new x m c (others m ne);
}

-- a live node is one of the configuration
pub object-live : (s : SystemState) (x n : ℕ) → IsLive s n → (object s x).stopped n ≡ false
unfolding object
object-live s x n h = h

-- if a node changes but for its stop and its epoch, then the object sees it act
pub acts_object : (old new : SystemState) (x n : ℕ) (after : Node) (allowed : Letter → Type 0) → Changes old new n after allowed
    → after.stopped ≡ (old.node n).stopped → after.epoch ≡ (old.node n).epoch → moves.Acts (object old x) (object new x) n
acts_object old new x n after allowed c stop epoch = record {
  setting = same_setting old new x c.config c.views;
  others = same_others old new x n c.config c.others;
  live = object-live old x n c.live;
  stopped = same_stopped old new x n (ap (λ (k : Node). k.stopped) c.node ∙ stop);
  epoch = same_epoch old new x n (ap (λ (k : Node). k.epoch) c.node ∙ epoch);
}

-- the entry and the gather of a node that acts
pub entry_after : (old new : SystemState) (x n : ℕ) (after : Node) (allowed : Letter → Type 0) → Changes old new n after allowed → IsNumbered old
    → (object new x).entry n ≡ entry after x
entry_after old new x n after allowed c numbered =
    let within : n < old.config.nodes = numbered.within n c.live in
    let here : n < new.config.nodes = rw c.config within in
    object-entry new x n here ∙ ap (λ (k : Node). entry k x) c.node

-- after a node changes, the object's gather there is the one of the changed node
pub gather_after : (old new : SystemState) (x n : ℕ) (after : Node) (allowed : Letter → Type 0) → Changes old new n after allowed → IsNumbered old
    → (object new x).gather n ≡ gather after x
gather_after old new x n after allowed c numbered =
    let within : n < old.config.nodes = numbered.within n c.live in
    let here : n < new.config.nodes = rw c.config within in
    object-gather new x n here ∙ ap (λ (k : Node). gather k x) c.node

-- before a node changes, the object's entry there is the one that the node has
pub entry_before : (old new : SystemState) (x n : ℕ) (after : Node) (allowed : Letter → Type 0) → Changes old new n after allowed → IsNumbered old
    → (object old x).entry n ≡ entry (old.node n) x
entry_before old new x n after allowed c numbered = object-entry old x n (numbered.within n c.live)

-- before a node changes, the object's gather there is the one that the node has
pub gather_before : (old new : SystemState) (x n : ℕ) (after : Node) (allowed : Letter → Type 0) → Changes old new n after allowed → IsNumbered old
    → (object old x).gather n ≡ gather (old.node n) x
gather_before old new x n after allowed c numbered = object-gather old x n (numbered.within n c.live)

-- what a letter may say of an object that a node does not change
abbrev pub TellsPlace : Node → ℕ → Said → Type 0
TellsPlace n x m = m ≡ Validates (entry n x).stamp (entry n x).place

-- a node that changes nothing of the object, and says at most where it is settled
pub tells_object : (old new : SystemState) (x n : ℕ) (after : Node) (allowed : Letter → Type 0) → IsNumbered old → Changes old new n after allowed
    → after.stopped ≡ (old.node n).stopped → after.epoch ≡ (old.node n).epoch → entry after x ≡ entry (old.node n) x
    → gather after x ≡ gather (old.node n) x → ((l : Letter) (m : Said) → allowed l → In m (says x l) → TellsPlace (old.node n) x m)
    → moves.Tells (object old x) (object new x) n
tells_object old new x n after allowed numbered c stop epoch same_entry same_gather hears = record {
  acts = acts_object old new x n after allowed c stop epoch;
  entry = entry_after old new x n after allowed c numbered ∙ same_entry ∙ sym (entry_before old new x n after allowed c numbered);
  gather = gather_after old new x n after allowed c numbered ∙ same_gather ∙ sym (gather_before old new x n after allowed c numbered);
  sends =
      let sent : moves.Sends (object old x) (object new x) (TellsPlace (old.node n) x) =
      sends_object old new x allowed (TellsPlace (old.node n) x) c.sends hears in
      rw (entry_before old new x n after allowed c numbered) sent;
}

-- a node that changes nothing of the object and sends nothing
pub quiet_object : (old new : SystemState) (x n : ℕ) (after : Node) → IsNumbered old → Changes old new n after nothing
    → after.stopped ≡ (old.node n).stopped → after.epoch ≡ (old.node n).epoch → entry after x ≡ entry (old.node n) x
    → gather after x ≡ gather (old.node n) x → moves.Tells (object old x) (object new x) n
quiet_object old new x n after numbered c stop epoch same_entry same_gather =
    tells_object old new x n after nothing numbered c stop epoch same_entry same_gather (λ l m none i. absurd none)

-- of letters about another object, this one hears nothing
pub nothing_heard : (old new : SystemState) (x n : ℕ) (after : Node) (allowed : Letter → Type 0) → Changes old new n after allowed
    → ((l : Letter) (m : Said) → allowed l → In m (says x l) → ⊥) → moves.Sends (object old x) (object new x) moves.nothing
nothing_heard old new x n after allowed c hears = sends_object old new x allowed moves.nothing c.sends hears

-- if a node changes without a letter, then nothing is said of the object
pub quiet_sends : (old new : SystemState) (x n : ℕ) (after : Node) → Changes old new n after nothing → moves.Sends (object old x) (object new x) moves.nothing
quiet_sends old new x n after c = nothing_heard old new x n after nothing c (λ l m none i. none)
