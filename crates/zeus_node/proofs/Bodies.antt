-- The rules of letters, body by body.
use Rattle.std.specs.Prelude.{◌&&◌, ◌==◌, not}
use Rattle.std.proofs.Common.{ℕ, ◌≡◌, ◌<◌, true, false, [], Option, Some, None, refl, arith}
use Rattle.std.proofs.lemmas.Bool.{and_parts, cond_both, eq-eqb, ne_eqb}
use Rattle.zeus_base.specs.Order.{is_below}
use Rattle.zeus_base.specs.declared.config.Limits.{Limits}
use Rattle.zeus_base.specs.declared.order.Stamp.{Stamp}
use Rattle.zeus_base.specs.declared.order.Stream.{Stream}
use Rattle.zeus_packet.specs.Fits.{body_fits, content_fits, inv_fits, object_fits, place_fits, proposal_fits, stamp_fits, stream_fits}
use Rattle.zeus_packet.specs.declared.letter.Body.{Body}
use Rattle.zeus_packet.specs.declared.letter.Body.TheVariants.{RInv, RAck, RVal, OReq, OInv, OAck, ONack, OVal, Recovered}
use Rattle.zeus_packet.specs.declared.letter.Cause.{Cause}
use Rattle.zeus_packet.specs.declared.letter.Letter.{Letter}
use Rattle.zeus_packet.specs.declared.letter.RInv.{RInv as Invalidation}
use Rattle.zeus_packet.specs.declared.place.Place.{Place}
use Rattle.zeus_packet.specs.declared.place.Proposal.{Proposal}
use Rattle.zeus_packet.specs.declared.place.Want.{Want}
use Rattle.zeus_packet.specs.declared.write.Content.{Content}
use Rattle.zeus_model.specs.declared.answer.Outcome.{Outcome}
use Rattle.zeus_model.specs.declared.answer.Outcome.TheVariants.{Stopped, NotMine, OtherEpoch, NotOpen}
use Rattle.zeus_model.specs.declared.state.Gather.{Gather}
use Rattle.zeus_model.specs.Act.{Act, Did, just}
use Rattle.zeus_model.specs.Commit.{finish, on_kept_rack, on_own_rack, on_rack, on_rinv, on_rval, stored_rinv}
use Rattle.zeus_model.specs.Ownership.{answer_request, collect_cause, collect_or_refuse, decide_gathered, decide_on, gather_for, gather_or_older, greater_gather, hold_cause, hold_or_refuse, is_decidable, oack_on_base, oinv_on_base, on_oack, on_oinv, on_oreq, on_oval, rebased, request_cause, take_ack}
use Rattle.zeus_model.specs.Receive.{needs_open, on_recovered, receive, receive_or_not, row, rejection}
use Rattle.zeus_model.specs.State.{Node, entry, gather, is_open}
use Rattle.zeus_model.specs.Tables.{or_else, where_true}
use Rattle.node_state.specs.declared.effect.Effect.{Effect}
use Rattle.node_state.specs.Done.{IsActed, IsDone}
use Rattle.node_state.specs.EffectLaws.{done_then}
use Rattle.node_ranges.specs.Places.{object_fits-less}

-- ---- which fields of a letter fit

module _ (l : Limits) (x : ℕ) where
  pub request-object : (want : Want) → body_fits l (OReq x want) ≡ true → x < l.objects
  unfolding body_fits
  request-object want fit = object_fits-less l x fit

  module _ (p : Proposal) where
    pub proposal-object : body_fits l (OInv x p) ≡ true → x < l.objects
    unfolding body_fits
    proposal-object fit = object_fits-less l x (and_parts (object_fits l x) (proposal_fits l p) fit).0

    pub proposal-proposal : body_fits l (OInv x p) ≡ true → proposal_fits l p ≡ true
    unfolding body_fits
    proposal-proposal fit = (and_parts (object_fits l x) (proposal_fits l p) fit).1

    module _ (content : Option Content) (fit : body_fits l (OAck x p content) ≡ true) where
      pub ack-object : x < l.objects
      unfolding body_fits
      ack-object = object_fits-less l x (and_parts (object_fits l x) (proposal_fits l p) (and_parts (object_fits l x && proposal_fits l p) (content_fits l content) fit).0).0

      pub ack-proposal : proposal_fits l p ≡ true
      unfolding body_fits
      ack-proposal = (and_parts (object_fits l x) (proposal_fits l p) (and_parts (object_fits l x && proposal_fits l p) (content_fits l content) fit).0).1

  module _ (stamp : Stamp) (place : Place) (fit : body_fits l (OVal x stamp place) ≡ true) where
    pub decided-object : x < l.objects
    unfolding body_fits
    decided-object = object_fits-less l x (and_parts (object_fits l x) (stamp_fits l stamp) (and_parts (object_fits l x && stamp_fits l stamp) (place_fits l place) fit).0).0

    pub decided-stamp : stamp_fits l stamp ≡ true
    unfolding body_fits
    decided-stamp = (and_parts (object_fits l x) (stamp_fits l stamp) (and_parts (object_fits l x && stamp_fits l stamp) (place_fits l place) fit).0).1

    pub decided-place : place_fits l place ≡ true
    unfolding body_fits
    decided-place = (and_parts (object_fits l x && stamp_fits l stamp) (place_fits l place) fit).1

-- if the body of an entry's letter fits, then the entry does
pub entry-fits : (l : Limits) (r : Invalidation) → body_fits l (RInv r) ≡ true → inv_fits l r ≡ true
unfolding body_fits
entry-fits l r fit = fit

-- if the body of an acknowledgement fits, then its stream does
pub acknowledged-fits : (l : Limits) (s : Stream) (number : ℕ) → body_fits l (RAck s number) ≡ true → stream_fits l s ≡ true
unfolding body_fits
acknowledged-fits l s number fit = fit

-- if the body of a letter of passed entries fits, then its stream does
pub passed-fits : (l : Limits) (s : Stream) (done : ℕ) → body_fits l (RVal s done) ≡ true → stream_fits l s ≡ true
unfolding body_fits
passed-fits l s done fit = fit

-- ---- no rule passes an entry: the finish does

stored-unpassed : (n : Node) (from : ℕ) (r : Invalidation) → (stored_rinv n from r).passed ≡ []
unfolding stored_rinv
stored-unpassed n from r = grind arith

rinv-unpassed : (n : Node) (from : ℕ) (r : Invalidation) → (on_rinv n from r).passed ≡ []
unfolding on_rinv
rinv-unpassed n from r = grind (arith, stored-unpassed)

rack-unpassed : (n : Node) (from : ℕ) (s : Stream) (number : ℕ) → (on_rack n from s number).passed ≡ []
unfolding on_rack on_own_rack on_kept_rack
rack-unpassed n from s number = grind arith

rval-unpassed : (n : Node) (s : Stream) (d : ℕ) → (on_rval n s d).passed ≡ []
unfolding on_rval
rval-unpassed n s d = grind arith

recovered-unpassed : (n : Node) (from : ℕ) → (on_recovered n from).passed ≡ []
unfolding on_recovered
recovered-unpassed n from = grind arith

request-unpassed : (n : Node) (from x : ℕ) (want : Want) (o : Option Cause) → (answer_request n from x want o).passed ≡ []
unfolding answer_request
request-unpassed n from x want None = refl
request-unpassed n from x want (Some cause) = refl

held-unpassed : (n : Node) (from x : ℕ) (p : Proposal) (o : Option Cause) → (hold_or_refuse n from x p o).passed ≡ []
unfolding hold_or_refuse
held-unpassed n from x p None = refl
held-unpassed n from x p (Some cause) = refl

oinv_base-unpassed : (n : Node) (from x : ℕ) (p : Proposal) (o : Option Node) → (oinv_on_base n from x p o).passed ≡ []
unfolding oinv_on_base
oinv_base-unpassed n from x p None = refl
oinv_base-unpassed n from x p (Some m) = held-unpassed m from x p (hold_cause m x p)

oinv-unpassed : (n : Node) (from x : ℕ) (p : Proposal) → (on_oinv n from x p).passed ≡ []
unfolding on_oinv
oinv-unpassed n from x p =
    cond_both (is_below (entry n x).stamp p.stamp) (oinv_on_base n from x p (rebased n x p)) _ (λ (d : Did Outcome). d.passed ≡ []) (λ _. oinv_base-unpassed n from x p (rebased n x p)) (λ _. refl)

decided_on-unpassed : (n : Node) (x : ℕ) (p : Proposal) (c : Option Content) → (decide_on n x p c).passed ≡ []
unfolding decide_on
decided_on-unpassed n x p None = refl
decided_on-unpassed n x p (Some c) = refl

decided-unpassed : (n : Node) (x : ℕ) (g : Option Gather) → (decide_gathered n x g).passed ≡ []
unfolding decide_gathered
decided-unpassed n x None = refl
decided-unpassed n x (Some g) =
    cond_both (is_decidable n g) (decide_on n x g.proposal g.content) _ (λ (a : Act). a.passed ≡ []) (λ _. decided_on-unpassed n x g.proposal g.content) (λ _. refl)

taken-unpassed : (n : Node) (from x : ℕ) (content : Option Content) (g : Gather) → (take_ack n from x content g).passed ≡ []
unfolding take_ack
taken-unpassed n from x content g = decided-unpassed _ x _

gathered-unpassed : (n : Node) (from x : ℕ) (p : Proposal) (content : Option Content) (o : Option Stamp) → (gather_or_older n from x p content o).passed ≡ []
unfolding gather_or_older
gathered-unpassed n from x p content None = taken-unpassed n from x content (gather_for p (gather n x))
gathered-unpassed n from x p content (Some stamp) = refl

collected-unpassed : (n : Node) (from x : ℕ) (p : Proposal) (content : Option Content) (o : Option Cause) → (collect_or_refuse n from x p content o).passed ≡ []
unfolding collect_or_refuse
collected-unpassed n from x p content None = gathered-unpassed n from x p content (greater_gather p.stamp (gather n x))
collected-unpassed n from x p content (Some cause) = refl

oack_base-unpassed : (n : Node) (from x : ℕ) (p : Proposal) (content : Option Content) (o : Option Node) → (oack_on_base n from x p content o).passed ≡ []
unfolding oack_on_base
oack_base-unpassed n from x p content None = refl
oack_base-unpassed n from x p content (Some m) = collected-unpassed m from x p content (collect_cause m x p)

oack-unpassed : (n : Node) (from x : ℕ) (p : Proposal) (content : Option Content) → (on_oack n from x p content).passed ≡ []
unfolding on_oack
oack-unpassed n from x p content =
    cond_both (is_below (entry n x).stamp p.stamp) (oack_on_base n from x p content (rebased n x p)) _ (λ (d : Did Outcome). d.passed ≡ []) (λ _. oack_base-unpassed n from x p content (rebased n x p)) (λ _. refl)

oval-unpassed : (n : Node) (x : ℕ) (stamp : Stamp) (place : Place) → (on_oval n x stamp place).passed ≡ []
unfolding on_oval
oval-unpassed n x stamp place = grind arith

-- the row of a letter passes nothing
pub row-unpassed : (n : Node) (from : ℕ) (b : Body) → (row n from b).passed ≡ []
unfolding row on_oreq
row-unpassed n from (RInv r) = rinv-unpassed n from r
row-unpassed n from (RAck s number) = rack-unpassed n from s number
row-unpassed n from (RVal s done) = rval-unpassed n s done
row-unpassed n from (OReq x want) = request-unpassed n from x want (request_cause n x from want)
row-unpassed n from (OInv x p) = oinv-unpassed n from x p
row-unpassed n from (OAck x p content) = oack-unpassed n from x p content
row-unpassed n from (ONack x stamp cause) = refl
row-unpassed n from (OVal x stamp place) = oval-unpassed n x stamp place
row-unpassed n from Recovered = recovered-unpassed n from

-- ---- the tests before every letter

module _ (n : Node) (l : Letter) where
  pub rejection-stopped : n.stopped ≡ true → Some Stopped ≡ rejection n l
  unfolding rejection or_else where_true
  rejection-stopped s = rw s refl

  pub rejection-not_mine : n.stopped ≡ false → not (l.to == n.me) ≡ true → Some (NotMine l.to) ≡ rejection n l
  unfolding rejection or_else where_true
  rejection-not_mine s m = rw (s, m) refl

  pub rejection-other_epoch : n.stopped ≡ false → not (l.to == n.me) ≡ false → (l.epoch ≡ n.epoch → ⊥) → Some (OtherEpoch l.epoch n.epoch) ≡ rejection n l
  unfolding rejection or_else where_true
  rejection-other_epoch s m e = rw (s, m, ne_eqb l.epoch n.epoch e) refl

  pub rejection-closed : n.stopped ≡ false → not (l.to == n.me) ≡ false → l.epoch ≡ n.epoch → where_true (needs_open l.body && not (is_open n)) NotOpen ≡ rejection n l
  unfolding rejection or_else where_true
  rejection-closed s m e = rw (s, m, eq-eqb l.epoch n.epoch e) refl

-- ---- the whole of a letter

-- a letter that fails a test meets no rule
pub receive-untaken : (n : Node) (l : Letter) (outcome : Outcome) → Some outcome ≡ rejection n l → receive n l ≡ just n outcome
unfolding receive receive_or_not
receive-untaken n l outcome e = rw (← e) refl

-- another meets the rule of its body, and then the node finishes
pub received : (n m k : Node) (l : Letter) (answer : Outcome) (a b c : Effect) → None ≡ rejection n l → IsDone (row n l.from l.body) answer m a b → IsActed (finish m) k b c → IsDone (receive n l) answer k a c
unfolding receive receive_or_not
received n m k l answer a b c taken d f = rw (← taken) (done_then (row n l.from l.body) finish answer m k a b c d f)
