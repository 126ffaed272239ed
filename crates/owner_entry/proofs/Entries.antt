-- What becomes of an entry: the node's definitions, at a node that has it.
use Rattle.std.proofs.Common.{ℕ, ◌≡◌, ◌∙◌, ◌<◌, Bool, true, false, not, ◌&&◌, ◌==◌, List, Option, Some, None, is_none, if◌then◌else◌, length, refl, sym, ap}
use Rattle.std.proofs.Math.ListN.{get_or, set}
use Rattle.zeus_base.specs.Tables.{put}
use Rattle.zeus_base.specs.TableLaws.{nth-put_same, nth_read, put-set, set-nth}
use Rattle.zeus_base.specs.Order.{is_below}
use Rattle.zeus_base.specs.declared.order.Stamp.{Stamp}
use Rattle.zeus_packet.specs.declared.letter.Cause.{Cause}
use Rattle.zeus_packet.specs.declared.letter.Cause.TheVariants.{Proposed}
use Rattle.zeus_packet.specs.declared.place.Place.{Place}
use Rattle.zeus_packet.specs.declared.place.Proposal.{Proposal}
use Rattle.zeus_model.specs.declared.answer.Outcome.TheVariants.{Taken, Again}
use Rattle.zeus_model.specs.declared.state.Entry.{Entry}
use Rattle.zeus_model.specs.Ownership.{answer_settled, greater_cause, hold_or_refuse, holding, is_held, refuse_proposal, settle, settled_entry}
use Rattle.zeus_model.specs.State.{Node, entry, no_entry, owns}
use Rattle.owner_entry.specs.Acceptance.{on_proposal}

-- a node owns an object just if the entry names it as owner and has no proposal
pub owns_known : (n : Node) (x me : ℕ) (e : Entry) → entry n x ≡ e → n.me ≡ me → owns n x ≡ ((e.place.owner == me) && is_none e.proposal)
unfolding owns
owns_known n x me e here mine = rw (here, mine) refl

-- if a stamp is above the entry's, then settling sets the entry's stamp and place
pub settle_above : (n : Node) (x : ℕ) (e : Entry) (stamp : Stamp) (place : Place) → entry n x ≡ e → is_below e.stamp stamp ≡ true → entry (settle n x stamp place) x ≡ settled_entry e stamp place
unfolding settle
settle_above n x e stamp place here above = rw (here, above) (nth-put_same no_entry n.entries x (settled_entry e stamp place))

-- if a stamp is not above the entry's, then settling changes nothing
pub settle_below : (n : Node) (x : ℕ) (e : Entry) (stamp : Stamp) (place : Place) → entry n x ≡ e → is_below e.stamp stamp ≡ false → settle n x stamp place ≡ n
unfolding settle
settle_below n x e stamp place here above = rw (here, above) refl

settle_entries : (n : Node) (x : ℕ) (stamp : Stamp) (place : Place) → is_below (entry n x).stamp stamp ≡ true → put no_entry n.entries x (settled_entry (entry n x) stamp place) ≡ (settle n x stamp place).entries
unfolding settle
settle_entries n x stamp place above = rw above refl

-- a stamp that is not above leaves the entry
pub settle_same : (n : Node) (x : ℕ) (e : Entry) (stamp : Stamp) (place : Place) → entry n x ≡ e → is_below e.stamp stamp ≡ false → e ≡ entry (settle n x stamp place) x
settle_same n x e stamp place here above = rw (settle_below n x e stamp place here above) (sym here)

-- if a proposal's stamp is not above the entry's, then the node answers with what is settled
pub on_proposal-settled : (n : Node) (from x : ℕ) (e : Entry) (p : Proposal) → entry n x ≡ e → is_below e.stamp p.stamp ≡ false → on_proposal n from x p ≡ answer_settled n from x
unfolding on_proposal
on_proposal-settled n from x e p here above = rw (here, above) refl

-- if the entry has a greater proposal, then the proposal is refused with that one's stamp
pub on_proposal-older : (n : Node) (from x : ℕ) (e : Entry) (p : Proposal) (stamp : Stamp) → entry n x ≡ e → is_below e.stamp p.stamp ≡ true → Some (Proposed stamp) ≡ greater_cause p.stamp e.proposal → on_proposal n from x p ≡ refuse_proposal n x p (Proposed stamp)
unfolding on_proposal hold_or_refuse
on_proposal-older n from x e p stamp here above greater = rw (here, above, ← greater) refl

-- if a proposal's stamp is above the entry's and the entry has none greater, then the node holds it and acknowledges it
pub on_proposal-held : (n : Node) (from x : ℕ) (e : Entry) (p : Proposal) → entry n x ≡ e → is_below e.stamp p.stamp ≡ true → None ≡ greater_cause p.stamp e.proposal → on_proposal n from x p ≡ hold_or_refuse n from x p None
unfolding on_proposal
on_proposal-held n from x e p here above greater = rw (here, above, ← greater) refl

-- the entry with this proposal held
pub holding_known : (n : Node) (x : ℕ) (e : Entry) (p : Proposal) → entry n x ≡ e → record { stamp = e.stamp; place = e.place; proposal = Some p } ≡ entry (holding n x p) x
holding_known n x e p here =
    sym (nth-put_same no_entry n.entries x _ ∙ ap (λ (f : Entry). let g : Entry = record { stamp = f.stamp; place = f.place; proposal = Some p } in g) here)

-- a node that does not refuse a proposal has the entry that holds it
pub holding_node : (n : Node) (from x : ℕ) (p : Proposal) → entry (holding n x p) x ≡ entry (hold_or_refuse n from x p None).node x
unfolding hold_or_refuse
holding_node n from x p = refl

module _ (n : Node) (from x : ℕ) (e : Entry) (p : Proposal) (here : entry n x ≡ e) where
  held_as : (held new : Bool) → is_held p e.proposal ≡ held → new ≡ not held → (hold_or_refuse n from x p None).answer ≡ (if new then Taken else Again)
  unfolding hold_or_refuse
  held_as true new is e = rw (here, is, e) refl
  held_as false new is e = rw (here, is, e) refl

  pub holding_answer : (new : Bool) → new ≡ not (is_held p e.proposal) → (hold_or_refuse n from x p None).answer ≡ (if new then Taken else Again)
  holding_answer new is = held_as (is_held p e.proposal) new refl is

settle_set-by : (n : Node) (x : ℕ) (stamp : Stamp) (place : Place) (b : Bool) → x < length n.entries → is_below (entry n x).stamp stamp ≡ b → set n.entries x (entry (settle n x stamp place) x) ≡ (settle n x stamp place).entries
settle_set-by n x stamp place true h above =
    rw (settle_above n x _ stamp place refl above) (sym (put-set no_entry n.entries x _ h) ∙ settle_entries n x stamp place above)
settle_set-by n x stamp place false h above = rw (settle_below n x _ stamp place refl above) (set-nth no_entry n.entries x h)

-- a settled stamp changes the entry of its object and no other
pub settle_set : (n : Node) (x : ℕ) (stamp : Stamp) (place : Place) → x < length n.entries → set n.entries x (entry (settle n x stamp place) x) ≡ (settle n x stamp place).entries
settle_set n x stamp place h = settle_set-by n x stamp place (is_below (entry n x).stamp stamp) h refl

-- so does a proposal
on_proposal_set-by : (n : Node) (from x : ℕ) (p : Proposal) (b : Bool) (cause : Option Cause) → x < length n.entries → is_below (entry n x).stamp p.stamp ≡ b → greater_cause p.stamp (entry n x).proposal ≡ cause → set n.entries x (entry (on_proposal n from x p).node x) ≡ (on_proposal n from x p).node.entries
unfolding on_proposal hold_or_refuse
on_proposal_set-by n from x p false cause h above greater = rw above (set-nth no_entry n.entries x h)
on_proposal_set-by n from x p true (Some cause) h above greater = rw (above, greater) (set-nth no_entry n.entries x h)
on_proposal_set-by n from x p true None h above greater =
    rw (above, greater) (rw (nth-put_same no_entry n.entries x record { stamp = (entry n x).stamp; place = (entry n x).place; proposal = Some p }) (sym (put-set no_entry n.entries x _ h)))

-- writing the object's entry after a proposal among the old ones gives the entries after it
pub on_proposal_set : (n : Node) (from x : ℕ) (p : Proposal) → x < length n.entries → set n.entries x (entry (on_proposal n from x p).node x) ≡ (on_proposal n from x p).node.entries
on_proposal_set n from x p h = on_proposal_set-by n from x p (is_below (entry n x).stamp p.stamp) (greater_cause p.stamp (entry n x).proposal) h refl refl

-- the entry of a node with these entries
pub entry_of : (n : Node) (xs : List Entry) (x : ℕ) (e : Entry) → n.entries ≡ xs → x < length xs → e ≡ get_or xs x e → entry n x ≡ e
entry_of n xs x e same h there = rw same (nth_read no_entry xs x e h there)

-- writing the object's settled entry among the old ones gives the entries after settling
pub settle_written : (n : Node) (xs : List Entry) (x : ℕ) (stamp : Stamp) (place : Place) (f : Entry) → n.entries ≡ xs → x < length xs → f ≡ entry (settle n x stamp place) x → set xs x f ≡ (settle n x stamp place).entries
settle_written n xs x stamp place f same h is = rw (← same, is) (settle_set n x stamp place (rw same h))

-- writing the object's entry after a proposal among the ones read gives the entries after it
pub on_proposal_written : (n : Node) (xs : List Entry) (from x : ℕ) (p : Proposal) (f : Entry) → n.entries ≡ xs → x < length xs → f ≡ entry (on_proposal n from x p).node x → set xs x f ≡ (on_proposal n from x p).node.entries
on_proposal_written n xs from x p f same h is = rw (← same, is) (on_proposal_set n from x p (rw same h))

-- a proposal that is held changes the entry of its object and no other
pub holding_written : (n : Node) (xs : List Entry) (x : ℕ) (p : Proposal) (f : Entry) → n.entries ≡ xs → x < length xs → f ≡ entry (holding n x p) x → set xs x f ≡ (holding n x p).entries
holding_written n xs x p f same h is =
    rw (← same, is, nth-put_same no_entry n.entries x record { stamp = (entry n x).stamp; place = (entry n x).place; proposal = Some p }) (sym (put-set no_entry n.entries x _ (rw same h)))
