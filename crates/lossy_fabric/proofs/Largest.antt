-- A letter that fits a configuration's limits fits the largest limits, and so can be sent.
use Rattle.std.proofs.Common.{◌≡◌, ℕ, ◌≤◌, true, ◌&&◌, nat_lt, nat_le, List, [], ◌∷◌, length, Option, Some, None, refl, arith}
use Rattle.std.specs.List.{list_all}
use Rattle.std.proofs.lemmas.Bool.Decides.{nat_tests}
use Rattle.zeus_base.specs.Nodes.{has}
use Rattle.zeus_base.specs.declared.config.Limits.{Limits}
use Rattle.zeus_base.specs.declared.order.Stamp.{Stamp}
use Rattle.zeus_base.specs.declared.order.Stream.{Stream}
use Rattle.zeus_base.specs.declared.value.Value.{Value}
use Rattle.zeus_base.specs.declared.value.Value.TheVariants.{Num, Text}
use Rattle.zeus_packet.specs.Fits.{are_once, body_fits, cause_fits, content_fits, fits, inv_fits, nodes_fit, object_fits, place_fits, proposal_fits, stamp_fits, stream_fits, value_fits, want_fits, write_fits, writes_fit}
use Rattle.zeus_packet.specs.declared.letter.Body.{Body}
use Rattle.zeus_packet.specs.declared.letter.Body.TheVariants.{RInv, RAck, RVal, OReq, OInv, OAck, ONack, OVal, Recovered}
use Rattle.zeus_packet.specs.declared.letter.Cause.{Cause}
use Rattle.zeus_packet.specs.declared.letter.Cause.TheVariants.{OwnStream, Window, NotDirectory, Proposed, Owns, HasCopy, NotReader, NoSource, Degree, IsSource, WornOut, NoCopy, Held, NotValid, Kept, NotArbiter, NotCollector, OwnPlace}
use Rattle.zeus_packet.specs.declared.letter.Letter.{Letter}
use Rattle.zeus_packet.specs.declared.letter.RInv.{RInv as Inv}
use Rattle.zeus_packet.specs.declared.place.Place.{Place}
use Rattle.zeus_packet.specs.declared.place.Proposal.{Proposal}
use Rattle.zeus_packet.specs.declared.write.Content.{Content}
use Rattle.zeus_packet.specs.declared.write.Write.{Write}
use Rattle.zeus_wire.specs.Ranges.{AreLimits, largest}
use Rattle.zeus_wire.proofs.Booleans.{both_true}

-- the second limits are as wide as the first, and have version 2
record Wider (l m : Limits) : Type 0 where
  nodes : l.nodes ≤ m.nodes
  slots : l.slots ≤ m.slots
  objects : l.objects ≤ m.objects
  version : m.version ≡ 2

wider_test : (a b n : ℕ) → a ≤ b → nat_lt n a ≡ true → nat_lt n b ≡ true
wider_test a b n le h = grind (arith, nat_tests)

nodes_wider : (l m : Limits) (ns : List ℕ) → Wider l m → list_all (λ n. nat_lt n l.nodes) ns ≡ true → list_all (λ n. nat_lt n m.nodes) ns ≡ true
nodes_wider l m [] w h = refl
nodes_wider l m (n ∷ ns) w h =
    let parts = both_true (nat_lt n l.nodes) (list_all (λ n. nat_lt n l.nodes) ns) h in
    rw (wider_test l.nodes m.nodes n w.nodes parts.0, nodes_wider l m ns w parts.1) refl

stream_wider : (l m : Limits) (s : Stream) → Wider l m → stream_fits l s ≡ true → stream_fits m s ≡ true
unfolding stream_fits
stream_wider l m s w h =
    let parts = both_true (nat_lt s.node l.nodes) (nat_lt s.slot l.slots) h in
    rw (wider_test l.nodes m.nodes s.node w.nodes parts.0, wider_test l.slots m.slots s.slot w.slots parts.1) refl

stamp_wider : (l m : Limits) (s : Stamp) → Wider l m → stamp_fits l s ≡ true → stamp_fits m s ≡ true
unfolding stamp_fits
stamp_wider l m s w h = wider_test l.nodes m.nodes s.driver w.nodes h

object_wider : (l m : Limits) (x : ℕ) → Wider l m → object_fits l x ≡ true → object_fits m x ≡ true
unfolding object_fits
object_wider l m x w h = wider_test l.objects m.objects x w.objects h

place_wider : (l m : Limits) (p : Place) → Wider l m → place_fits l p ≡ true → place_fits m p ≡ true
unfolding place_fits nodes_fit
place_wider l m p w h =
    let parts = both_true (nat_lt p.owner l.nodes && list_all (λ n. nat_lt n l.nodes) p.replicas) (has p.owner p.replicas) h in
    let first = both_true (nat_lt p.owner l.nodes) (list_all (λ n. nat_lt n l.nodes) p.replicas) parts.0 in
    rw (wider_test l.nodes m.nodes p.owner w.nodes first.0, nodes_wider l m p.replicas w first.1, parts.1) refl

proposal_wider : (l m : Limits) (p : Proposal) → Wider l m → proposal_fits l p ≡ true → proposal_fits m p ≡ true
unfolding proposal_fits
proposal_wider l m p w h =
    let stamp : stamp_fits l p.stamp ≡ true = grind arith in
    let requester : nat_lt p.requester l.nodes ≡ true = grind arith in
    let base : stamp_fits l p.base ≡ true = grind arith in
    let place : place_fits l p.base_place ≡ true = grind arith in
    let wish : want_fits p.want p.requester p.base_place ≡ true = grind arith in
    rw (stamp_wider l m p.stamp w stamp, wider_test l.nodes m.nodes p.requester w.nodes requester, stamp_wider l m p.base w base, place_wider l m p.base_place w place, wish) refl

value_wider : (l m : Limits) (v : Value) → Wider l m → value_fits m v ≡ true
unfolding value_fits
value_wider l m (Num n) w = refl
value_wider l m (Text t) w = grind (arith, nat_tests, w.version)

writes_wider : (l m : Limits) (ws : List Write) → Wider l m → list_all (write_fits l) ws ≡ true → list_all (write_fits m) ws ≡ true
unfolding write_fits
writes_wider l m [] w h = refl
writes_wider l m (v ∷ ws) w h =
    let parts = both_true (object_fits l v.obj && value_fits l v.value) (list_all (write_fits l) ws) h in
    let first = both_true (object_fits l v.obj) (value_fits l v.value) parts.0 in
    rw (object_wider l m v.obj w first.0, value_wider l m v.value w, writes_wider l m ws w parts.1) refl

inv_wider : (l m : Limits) (r : Inv) → Wider l m → inv_fits l r ≡ true → inv_fits m r ≡ true
unfolding inv_fits writes_fit nodes_fit
inv_wider l m r w h =
    let stream : stream_fits l r.stream ≡ true = grind arith in
    let number : nat_lt r.number 4294967295 ≡ true = grind arith in
    let done : nat_le r.done r.number ≡ true = grind arith in
    let followers : list_all (λ n. nat_lt n l.nodes) r.followers ≡ true = grind arith in
    let some : nat_le 1 (length r.writes) ≡ true = grind arith in
    let few : nat_le (length r.writes) 8 ≡ true = grind arith in
    let each : list_all (write_fits l) r.writes ≡ true = grind arith in
    let once : are_once r.writes ≡ true = grind arith in
    rw (stream_wider l m r.stream w stream, number, done, nodes_wider l m r.followers w followers, some, few, writes_wider l m r.writes w each, once) refl

content_wider : (l m : Limits) (content : Option Content) → Wider l m → content_fits m content ≡ true
unfolding content_fits
content_wider l m None w = refl
content_wider l m (Some c) w = value_wider l m c.value w

cause_wider : (l m : Limits) (cause : Cause) → Wider l m → cause_fits l cause ≡ true → cause_fits m cause ≡ true
unfolding cause_fits
cause_wider l m OwnStream w h = refl
cause_wider l m Window w h = refl
cause_wider l m NotDirectory w h = refl
cause_wider l m (Proposed s) w h = stamp_wider l m s w h
cause_wider l m Owns w h = refl
cause_wider l m HasCopy w h = refl
cause_wider l m NotReader w h = refl
cause_wider l m NoSource w h = refl
cause_wider l m Degree w h = refl
cause_wider l m IsSource w h = refl
cause_wider l m WornOut w h = refl
cause_wider l m NoCopy w h = refl
cause_wider l m (Held s) w h = wider_test l.slots m.slots s w.slots h
cause_wider l m (NotValid s) w h = refl
cause_wider l m (Kept s) w h = wider_test l.slots m.slots s w.slots h
cause_wider l m NotArbiter w h = refl
cause_wider l m NotCollector w h = refl
cause_wider l m OwnPlace w h = refl

body_wider : (l m : Limits) (body : Body) → Wider l m → body_fits l body ≡ true → body_fits m body ≡ true
unfolding body_fits
body_wider l m (RInv r) w h = inv_wider l m r w h
body_wider l m (RAck s number) w h = stream_wider l m s w h
body_wider l m (RVal s done) w h = stream_wider l m s w h
body_wider l m (OReq x want) w h = object_wider l m x w h
body_wider l m (OInv x p) w h =
    let parts = both_true (object_fits l x) (proposal_fits l p) h in
    rw (object_wider l m x w parts.0, proposal_wider l m p w parts.1) refl
body_wider l m (OAck x p content) w h =
    let parts = both_true (object_fits l x && proposal_fits l p) (content_fits l content) h in
    let first = both_true (object_fits l x) (proposal_fits l p) parts.0 in
    rw (object_wider l m x w first.0, proposal_wider l m p w first.1, content_wider l m content w) refl
body_wider l m (ONack x stamp cause) w h =
    let parts = both_true (object_fits l x && stamp_fits l stamp) (cause_fits l cause) h in
    let first = both_true (object_fits l x) (stamp_fits l stamp) parts.0 in
    rw (object_wider l m x w first.0, stamp_wider l m stamp w first.1, cause_wider l m cause w parts.1) refl
body_wider l m (OVal x stamp place) w h =
    let parts = both_true (object_fits l x && stamp_fits l stamp) (place_fits l place) h in
    let first = both_true (object_fits l x) (stamp_fits l stamp) parts.0 in
    rw (object_wider l m x w first.0, stamp_wider l m stamp w first.1, place_wider l m place w parts.1) refl
body_wider l m Recovered w h = refl

letter_wider : (l m : Limits) (letter : Letter) → Wider l m → fits letter l ≡ true → fits letter m ≡ true
unfolding fits
letter_wider l m letter w h =
    let from : nat_lt letter.from l.nodes ≡ true = grind arith in
    let to : nat_lt letter.to l.nodes ≡ true = grind arith in
    let epoch : nat_le 1 letter.epoch ≡ true = grind arith in
    let body : body_fits l letter.body ≡ true = grind arith in
    rw (wider_test l.nodes m.nodes letter.from w.nodes from, wider_test l.nodes m.nodes letter.to w.nodes to, epoch, body_wider l m letter.body w body) refl

-- what fits the limits of a configuration fits the largest
pub fits_largest : (limits : Limits) (letter : Letter) → AreLimits limits → fits letter limits ≡ true → fits letter (largest 2) ≡ true
fits_largest limits letter are h =
    letter_wider limits (largest 2) letter (record { nodes = are.nodes; slots = are.slots; objects = are.objects; version = refl }) h
