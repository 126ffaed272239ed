-- A stopped node stays stopped, whatever is asked of it.
use Rattle.std.proofs.Common.{ℕ, ◌≡◌, true, List, refl, ◌∙◌, ap}
use Rattle.zeus_packet.specs.declared.letter.Letter.{Letter}
use Rattle.zeus_packet.specs.declared.place.View.{View}
use Rattle.zeus_txn.specs.declared.ops.Op.{Op}
use Rattle.zeus_model.specs.Tables.{or_else, where_true}
use Rattle.zeus_model.specs.State.{Node}
use Rattle.zeus_model.specs.Local.{begin, try_slot}
use Rattle.zeus_model.specs.Membership.{install, stop, tick}
use Rattle.zeus_model.specs.Receive.{rejection, receive_or_not, receive}

-- it is stopped afterwards if it was before
pub record StaysStopped (n m : Node) : Type 0 where
  pub stays : n.stopped ≡ true → m.stopped ≡ true

-- a begin leaves a stopped node stopped
pub begin-stays : (n : Node) (s id : ℕ) (tx : List Op) → StaysStopped n (begin n s id tx).node
unfolding begin
begin-stays n s id tx = record { stays = λ h. rw h refl }

-- a try leaves a stopped node stopped
pub try-stays : (n : Node) (s : ℕ) → StaysStopped n (try_slot n s).node
unfolding try_slot
try-stays n s = record { stays = λ h. rw h refl }

-- a tick leaves a stopped node stopped
pub tick-stays : (n : Node) → StaysStopped n (tick n).node
unfolding tick
tick-stays n = record { stays = λ h. rw h refl }

-- a stop leaves a stopped node stopped
pub stop-stays : (n : Node) → StaysStopped n (stop n).node
unfolding stop
stop-stays n = record { stays = λ h. rw h refl }

-- an install leaves a stopped node stopped
pub install-stays : (n : Node) (v : View) → StaysStopped n (install n v).node
unfolding install
install-stays n v = record { stays = λ h. rw h refl }

-- a letter leaves a stopped node stopped
pub receive-stays : (n : Node) (l : Letter) → StaysStopped n (receive n l).node
unfolding receive receive_or_not rejection or_else where_true
receive-stays n l = record { stays = λ h. rw h refl }
