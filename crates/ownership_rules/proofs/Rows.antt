-- The rules of ownership, case by case.
use Rattle.std.specs.Prelude.{◌&&◌, not, if◌then◌else◌}
use Rattle.std.proofs.Common.{ℕ, ◌≡◌, ◌<◌, Bool, true, false, Option, Some, None, length, refl}
use Rattle.std.proofs.lemmas.Bool.{cond_both}
use Rattle.zeus_base.specs.Nodes.{has}
use Rattle.zeus_base.specs.Order.{is_below}
use Rattle.zeus_base.specs.TableLaws.{length-put}
use Rattle.zeus_base.specs.declared.order.Stamp.{Stamp}
use Rattle.zeus_packet.specs.declared.letter.Cause.{Cause}
use Rattle.zeus_packet.specs.declared.letter.Cause.TheVariants.{NotArbiter, OwnPlace}
use Rattle.zeus_packet.specs.declared.place.Place.{Place}
use Rattle.zeus_packet.specs.declared.place.Proposal.{Proposal}
use Rattle.zeus_packet.specs.declared.place.Want.{Want}
use Rattle.zeus_packet.specs.declared.write.Content.{Content}
use Rattle.zeus_model.specs.declared.answer.Outcome.TheVariants.{Taken, Again, Refused}
use Rattle.zeus_model.specs.Act.{just}
use Rattle.zeus_model.specs.Ownership.{accept_cause, answer_settled, collect_cause, collect_or_refuse, drive_cause, greater_cause, hold_cause, hold_or_refuse, is_held, is_source, oack_on_base, oinv_on_base, on_oack, on_oinv, on_oval, rebased, refuse_proposal, request_cause, settle, source_cause, takes_over, unready_cause}
use Rattle.zeus_model.specs.State.{Node, entry, no_entry}
use Rattle.zeus_model.specs.Tables.{or_else, where_true}
use Rattle.directory.specs.declared.drive.Drive.TheVariants.{Yes, No}
use Rattle.directory.specs.Driving.{answered}
use Rattle.node_ranges.specs.Ranges.{limits_of}

or_else-none : (c : Option Cause) → or_else c None ≡ c
unfolding or_else
or_else-none None = refl
or_else-none (Some c) = refl

-- ---- requests

-- if a request is refused with a cause, then that cause stood against it
pub answered-no : (o : Option Cause) (p : Proposal) (cause : Cause) → No cause ≡ answered o p → o ≡ Some cause
unfolding answered
answered-no None p cause e = absurd cc
answered-no (Some other) p cause e = cc

-- if a request is granted, then nothing stood against it
pub answered-yes_none : (o : Option Cause) (p q : Proposal) → Yes q ≡ answered o p → o ≡ None
unfolding answered
answered-yes_none None p q e = refl
answered-yes_none (Some cause) p q e = absurd cc

-- if a request is granted, then it is granted with the proposal made for it
pub answered-yes : (o : Option Cause) (p q : Proposal) → Yes q ≡ answered o p → q ≡ p
unfolding answered
answered-yes None p q e = cc
answered-yes (Some cause) p q e = absurd cc

module _ (n : Node) (x requester : ℕ) (want : Want) where
  -- a drive that the directory refuses is refused
  pub request-refused : (cause : Cause) → drive_cause n x requester want ≡ Some cause → request_cause n x requester want ≡ Some cause
  unfolding request_cause or_else
  request-refused cause e = rw e refl

  -- else the source's causes count
  pub request-source : drive_cause n x requester want ≡ None → request_cause n x requester want ≡ (if is_source n (entry n x).place then source_cause n x requester else None)
  unfolding request_cause or_else
  request-source e = rw e refl

-- ---- bases

module _ (n : Node) (x : ℕ) (p : Proposal) where
  pub rebased-not_above : is_below (entry n x).stamp p.base ≡ false → rebased n x p ≡ where_true true n
  unfolding rebased where_true
  rebased-not_above e = rw e refl

  pub rebased-own : (m : Node) → is_below (entry n x).stamp p.base ≡ true → takes_over n x p.base_place ≡ true → rebased n x p ≡ where_true false m
  unfolding rebased where_true
  rebased-own m above own = rw (above, own) refl

  pub rebased-settled : is_below (entry n x).stamp p.base ≡ true → takes_over n x p.base_place ≡ false → rebased n x p ≡ where_true true (settle n x p.base p.base_place)
  unfolding rebased where_true
  rebased-settled above other = rw (above, other) refl

-- settling an object leaves the sizes of the node's tables
pub limits_of-settle : (n : Node) (x : ℕ) (stamp : Stamp) (place : Place) → x < length n.entries → limits_of (settle n x stamp place) ≡ limits_of n
unfolding settle
limits_of-settle n x stamp place less =
    cond_both (is_below (entry n x).stamp stamp) _ n (λ (m : Node). limits_of m ≡ limits_of n) (λ _. rw (length-put no_entry n.entries x _ less) refl) (λ _. refl)

-- ---- proposals

module _ (n m : Node) (from x : ℕ) (p : Proposal) where
  pub on_oinv-settled : is_below (entry n x).stamp p.stamp ≡ false → on_oinv n from x p ≡ answer_settled n from x
  unfolding on_oinv
  on_oinv-settled e = rw e refl

  pub on_oinv-own : is_below (entry n x).stamp p.stamp ≡ true → rebased n x p ≡ where_true false m → on_oinv n from x p ≡ refuse_proposal n x p OwnPlace
  unfolding on_oinv oinv_on_base where_true
  on_oinv-own above own = rw (above, own) refl

  pub on_oinv-based : is_below (entry n x).stamp p.stamp ≡ true → rebased n x p ≡ where_true true m → on_oinv n from x p ≡ hold_or_refuse m from x p (hold_cause m x p)
  unfolding on_oinv oinv_on_base where_true
  on_oinv-based above based = rw (above, based) refl

-- if a cause stands against a proposal, then it is refused with that cause
pub hold_or_refuse-cause : (n : Node) (from x : ℕ) (p : Proposal) (cause : Cause) → hold_or_refuse n from x p (Some cause) ≡ refuse_proposal n x p cause
unfolding hold_or_refuse
hold_or_refuse-cause n from x p cause = refl

source_is_arbiter : (b : Bool) (greater accept : Option Cause) → or_else (where_true (not b && not true) NotArbiter) (or_else greater accept) ≡ or_else greater accept
unfolding or_else where_true
source_is_arbiter true greater accept = refl
source_is_arbiter false greater accept = refl

module _ (n : Node) (x : ℕ) (p : Proposal) where
  -- at the source a greater proposal counts, and then what stands against giving the object up
  pub hold_cause-source : is_source n p.base_place ≡ true → hold_cause n x p ≡ or_else (greater_cause p.stamp (entry n x).proposal) (accept_cause n x p)
  unfolding hold_cause
  hold_cause-source is = rw is (source_is_arbiter (has n.me n.directory) (greater_cause p.stamp (entry n x).proposal) (accept_cause n x p))

  -- at another directory node a greater proposal alone
  pub hold_cause-directory : is_source n p.base_place ≡ false → has n.me n.directory ≡ true → hold_cause n x p ≡ greater_cause p.stamp (entry n x).proposal
  unfolding hold_cause or_else where_true
  hold_cause-directory other here = rw (other, here) (or_else-none (greater_cause p.stamp (entry n x).proposal))

  -- any other node is no arbiter
  pub hold_cause-stranger : is_source n p.base_place ≡ false → has n.me n.directory ≡ false → hold_cause n x p ≡ Some NotArbiter
  unfolding hold_cause or_else where_true
  hold_cause-stranger other stranger = rw (other, stranger) refl

  pub accept_cause-held : is_held p (entry n x).proposal ≡ true → accept_cause n x p ≡ unready_cause n x
  unfolding accept_cause
  accept_cause-held is = rw is (or_else-none (unready_cause n x))

  pub accept_cause-new : is_held p (entry n x).proposal ≡ false → accept_cause n x p ≡ source_cause n x p.requester
  unfolding accept_cause source_cause
  accept_cause-new is = rw is refl

-- if a first cause stands, then it is the first of all
pub first_cause-some : (cause : Cause) (b : Option Cause) → or_else (Some cause) b ≡ Some cause
unfolding or_else
first_cause-some cause b = refl

-- if no first cause stands, then the first of all is that of the others
pub first_cause-none : (b : Option Cause) → or_else None b ≡ b
unfolding or_else
first_cause-none b = refl

-- ---- decided placements

module _ (n : Node) (x : ℕ) (stamp : Stamp) (place : Place) where
  pub on_oval-again : is_below (entry n x).stamp stamp ≡ false → on_oval n x stamp place ≡ just n Again
  unfolding on_oval
  on_oval-again e = rw e refl

  pub on_oval-own : is_below (entry n x).stamp stamp ≡ true → takes_over n x place ≡ true → on_oval n x stamp place ≡ just n (Refused OwnPlace)
  unfolding on_oval
  on_oval-own above own = rw (above, own) refl

  pub on_oval-settled : is_below (entry n x).stamp stamp ≡ true → takes_over n x place ≡ false → on_oval n x stamp place ≡ just (settle n x stamp place) Taken
  unfolding on_oval
  on_oval-settled above other = rw (above, other) refl

-- ---- acknowledgements

module _ (n m : Node) (from x : ℕ) (p : Proposal) (content : Option Content) where
  pub on_oack-settled : is_below (entry n x).stamp p.stamp ≡ false → on_oack n from x p content ≡ answer_settled n from x
  unfolding on_oack
  on_oack-settled e = rw e refl

  pub on_oack-own : is_below (entry n x).stamp p.stamp ≡ true → rebased n x p ≡ where_true false m → on_oack n from x p content ≡ just n (Refused OwnPlace)
  unfolding on_oack oack_on_base where_true
  on_oack-own above own = rw (above, own) refl

  pub on_oack-based : is_below (entry n x).stamp p.stamp ≡ true → rebased n x p ≡ where_true true m → on_oack n from x p content ≡ collect_or_refuse m from x p content (collect_cause m x p)
  unfolding on_oack oack_on_base where_true
  on_oack-based above based = rw (above, based) refl
