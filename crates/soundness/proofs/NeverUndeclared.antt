-- Objects that were not declared: nobody has a copy, nothing about them is ever decided, and what is said of them fits that.
use Rattle.std.specs.Prelude.{ℕ, zero, suc, ◌≡◌, ◌≢◌, ◌==◌, ◌-◌, nat_lt, true, false, List, [], ◌∷◌, take, Option, Some, None}
use Rattle.std.proofs.Common.{refl, sym, ap, ◌∙◌, inl, inr, subst}
use Rattle.std.proofs.lemmas.Bool.{cond_both, cases_eq}
use Rattle.zeus_base.specs.Nodes.{has}
use Rattle.zeus_base.specs.Order.{is_below, same_stamp}
use Rattle.zeus_base.specs.OrderLaws.{is_below-irrefl}
use Rattle.zeus_base.specs.declared.order.Stamp.{Stamp}
use Rattle.zeus_base.specs.declared.order.Stream.{Stream}
use Rattle.zeus_base.specs.TableLaws.{nth-put_same}
use Rattle.zeus_packet.specs.Place.{arbiters}
use Rattle.zeus_packet.specs.declared.letter.Body.{Body}
use Rattle.zeus_packet.specs.declared.letter.Body.TheVariants.{OInv, OAck, OVal}
use Rattle.zeus_packet.specs.declared.letter.Letter.{Letter}
use Rattle.zeus_packet.specs.declared.letter.RInv.{RInv as Invalidation}
use Rattle.zeus_packet.specs.declared.place.Place.{Place}
use Rattle.zeus_packet.specs.declared.place.Proposal.{Proposal}
use Rattle.zeus_packet.specs.declared.write.Content.{Content}
use Rattle.zeus_packet.specs.declared.write.Write.{Write}
use Rattle.zeus_txn.specs.declared.reply.Ran.{Ran}
use Rattle.zeus_model.specs.In.{In}
use Rattle.zeus_model.specs.Tables.{nth, put, or_else}
use Rattle.zeus_model.specs.declared.state.Copy.{Copy}
use Rattle.zeus_model.specs.declared.state.Current.{Current}
use Rattle.zeus_model.specs.declared.state.Entry.{Entry}
use Rattle.zeus_model.specs.declared.state.Gather.{Gather}
use Rattle.zeus_model.specs.State.{Node, Slot, StreamLog, no_entry, entry, copy, gather, log, with_entry, with_copy, with_copies, with_gather, with_slot, with_log}
use Rattle.zeus_model.specs.Commit.{validated, applied, each_write, raise, store, after_passing, pass_own, pass_kept}
use Rattle.zeus_model.specs.Local.{rewritten_copy, committed}
use Rattle.zeus_model.specs.Membership.{dropped}
use Rattle.zeus_model.specs.Ownership.{settle, settled_entry, gather_above, holding, is_source, own_content, content_of, gather_for, noted, bring, brought}
use Rattle.machine_moves.specs.SystemState.{SystemState}
use Rattle.machine_moves.proofs.Lists.{nth-put_other}
use Rattle.ownership_safety.specs.Object.{first_stamp, no_place}

-- a proposal on the placement that an undeclared object has
abbrev pub IsUntouchedProposal : Proposal → Type 0
IsUntouchedProposal p = (p.base ≡ first_stamp) × (p.base_place ≡ no_place)

-- a gather without a content
unfoldable pub HasNoContent : Option Gather → Type 0
HasNoContent None = Unit {0}
HasNoContent (Some g) = g.content ≡ None

unfoldable pub IsUntouchedHeld : Option Proposal → Type 0
IsUntouchedHeld None = Unit {0}
IsUntouchedHeld (Some p) = IsUntouchedProposal p

-- a node has nothing of the object, but perhaps a proposal and a gather without a content
pub record IsUntouchedNode (n : Node) (x : ℕ) : Type 0 where
  pub stamp : (entry n x).stamp ≡ first_stamp
  pub place : (entry n x).place ≡ no_place
  pub held : IsUntouchedHeld (entry n x).proposal
  pub copy : copy n x ≡ None
  pub gather : HasNoContent (gather n x)

-- what a letter may say of the object
unfoldable pub SaysUntouched : List ℕ → List ℕ → ℕ → ℕ → Body → Type 0
SaysUntouched directory members x to (OInv y p) = y ≡ x → IsUntouchedProposal p × (has to (arbiters p.base_place members directory) ≡ true)
SaysUntouched directory members x to (OAck y p c) = y ≡ x → IsUntouchedProposal p × (c ≡ None) × (has p.requester members ≡ true → to ≡ p.requester)
SaysUntouched directory members x to (OVal y stamp place) = y ≡ x → (stamp ≡ first_stamp) × (place ≡ no_place)
SaysUntouched directory members x to _ = Unit {0}

abbrev pub IsUntouchedLetter : List ℕ → List (List ℕ) → ℕ → Letter → Type 0
IsUntouchedLetter directory views x l = SaysUntouched directory (nth [] views (l.epoch - 1)) x l.to l.body

pub record IsUntouched (s : SystemState) (x : ℕ) : Type 0 where
  pub nodes : (n : ℕ) → IsUntouchedNode (s.node n) x
  pub letters : (l : Letter) → In l s.letters → IsUntouchedLetter s.config.directory s.views x l

-- ---- what leaves a node untouched

-- the node's entry and gather of the object, and its lack of a copy, stay
pub untouched-as : (n m : Node) (x : ℕ) → entry m x ≡ entry n x → copy m x ≡ copy n x → gather m x ≡ gather n x → IsUntouchedNode n x → IsUntouchedNode m x
untouched-as n m x e c g h =
    record {
      stamp = ap (λ (k : Entry). k.stamp) e ∙ h.stamp;
      place = ap (λ (k : Entry). k.place) e ∙ h.place;
      held = subst (λ (k : Entry). IsUntouchedHeld k.proposal) (sym e) h.held;
      copy = c ∙ h.copy;
      gather = subst (λ (k : Option Gather). HasNoContent k) (sym g) h.gather;
    }

-- writes leave no copy where none was
no_copy_comes : (f : Write → Option Copy → Option Copy) → ((w : Write) → f w None ≡ None) → (cs : List (Option Copy)) (ws : List Write) (x : ℕ)
    → nth None cs x ≡ None → nth None (each_write f cs ws) x ≡ None
unfolding each_write
no_copy_comes f keeps cs [] x h = h
no_copy_comes f keeps cs (w ∷ ws) x h =
    no_copy_comes f keeps (put None cs w.obj (f w (nth None cs w.obj))) ws x
    (elim (cases_eq x w.obj) [
      | inl same ↦ rw same (nth-put_same None cs w.obj (f w (nth None cs w.obj)) ∙ ap (λ (c : Option Copy). f w c) (ap (λ (i : ℕ). nth None cs i) (sym same) ∙ h) ∙ keeps w)
      | inr other ↦ nth-put_other None cs w.obj x (f w (nth None cs w.obj)) other ∙ h
    ])

validated-none : (w : Write) → validated w None ≡ None
unfolding validated
validated-none w = refl

applied-none : (w : Write) → applied w None ≡ None
unfolding applied
applied-none w = refl

rewritten-none : (w : Write) → rewritten_copy w None ≡ None
unfolding rewritten_copy
rewritten-none w = refl

untouched-copies : (n : Node) (cs : List (Option Copy)) (x : ℕ) → nth None cs x ≡ None → IsUntouchedNode n x → IsUntouchedNode (with_copies n cs) x
untouched-copies n cs x c h = record { stamp = h.stamp; place = h.place; held = h.held; copy = c; gather = h.gather }

-- if a node has nothing of an object, then it has nothing of it with another slot
pub untouched-with_slot : (n : Node) (i : ℕ) (l : Slot) (x : ℕ) → IsUntouchedNode n x → IsUntouchedNode (with_slot n i l) x
untouched-with_slot n i l x h = record { stamp = h.stamp; place = h.place; held = h.held; copy = h.copy; gather = h.gather }

-- if a node has nothing of an object, then it has nothing of it with another stored stream
pub untouched-with_log : (n : Node) (t : Stream) (l : StreamLog) (x : ℕ) → IsUntouchedNode n x → IsUntouchedNode (with_log n t l) x
untouched-with_log n t l x h = record { stamp = h.stamp; place = h.place; held = h.held; copy = h.copy; gather = h.gather }

untouched-passing : (n : Node) (ws : List Write) (x : ℕ) → IsUntouchedNode n x → IsUntouchedNode (with_copies n (each_write validated n.copies ws)) x
untouched-passing n ws x h = untouched-copies n (each_write validated n.copies ws) x (no_copy_comes validated validated-none n.copies ws x h.copy) h

-- if a node has nothing of an object, then it has nothing of it when it knows more entries to have passed
pub untouched-raise : (n : Node) (t : Stream) (d x : ℕ) → IsUntouchedNode n x → IsUntouchedNode (raise n t d) x
unfolding raise
untouched-raise n t d x h =
    cond_both (nat_lt (log n t).done d) _ n (λ (m : Node). IsUntouchedNode m x)
    (λ _. untouched-with_log (after_passing n (take (d - (log n t).done) (log n t).kept)) t _ x (untouched-passing n _ x h))
    (λ _. h)

-- if a node has nothing of an object, then it has nothing of it when it stores an entry
pub untouched-store : (n : Node) (r : Invalidation) (x : ℕ) → IsUntouchedNode n x → IsUntouchedNode (store n r) x
untouched-store n r x h =
    untouched-with_log (with_copies n (each_write applied n.copies r.writes)) r.stream _ x
    (untouched-copies n (each_write applied n.copies r.writes) x (no_copy_comes applied applied-none n.copies r.writes x h.copy) h)

-- if a node has nothing of an object, then it has nothing of it when an entry of its own stream passes
pub untouched-pass_own : (n : Node) (i k x : ℕ) → IsUntouchedNode n x → IsUntouchedNode (pass_own n i k) x
untouched-pass_own n i k x h = untouched-with_slot _ i _ x (untouched-passing n _ x h)

-- if a node has nothing of an object, then it has nothing of it when an entry of another node's stream passes
pub untouched-pass_kept : (n : Node) (t : Stream) (k x : ℕ) → IsUntouchedNode n x → IsUntouchedNode (pass_kept n t k) x
untouched-pass_kept n t k x h = untouched-with_log _ t _ x (untouched-passing n _ x h)

-- if a node has nothing of an object, then it has nothing of it when it commits
pub untouched-committed : (n : Node) (i : ℕ) (c : Current) (ran : Ran) (followers : List ℕ) (writes : List Write) (x : ℕ) → IsUntouchedNode n x
    → IsUntouchedNode (committed n i c ran followers writes) x
untouched-committed n i c ran followers writes x h =
    untouched-with_slot _ i _ x (untouched-copies n (each_write rewritten_copy n.copies writes) x (no_copy_comes rewritten_copy rewritten-none n.copies writes x h.copy) h)

-- ---- ownership

-- if a node has nothing of an object, then it has nothing of it when it holds a proposal that leaves the object so
pub untouched-holding : (n : Node) (y : ℕ) (p : Proposal) (x : ℕ) → (y ≡ x → IsUntouchedProposal p) → IsUntouchedNode n x → IsUntouchedNode (holding n y p) x
unfolding IsUntouchedHeld
untouched-holding n y p x says h =
    let held_entry : Entry = record { stamp = (entry n y).stamp; place = (entry n y).place; proposal = Some p } in
    elim (cases_eq x y) [
      | inl same ↦
          let is : entry (holding n y p) x ≡ held_entry = rw same (nth-put_same no_entry n.entries y held_entry) in
          record {
            stamp = ap (λ (k : Entry). k.stamp) is ∙ ap (λ (i : ℕ). (entry n i).stamp) (sym same) ∙ h.stamp;
            place = ap (λ (k : Entry). k.place) is ∙ ap (λ (i : ℕ). (entry n i).place) (sym same) ∙ h.place;
            held = subst (λ (k : Entry). IsUntouchedHeld k.proposal) (sym is) (says (sym same));
            copy = h.copy;
            gather = h.gather;
          }
      | inr other ↦ untouched-as n (holding n y p) x (nth-put_other no_entry n.entries y x held_entry other) refl refl h
    ]

no_content-noted : (p : Proposal) (g : Option Gather) (from : ℕ) (c : Option Content) → HasNoContent g → c ≡ None → HasNoContent (Some (noted (gather_for p g) from c))
unfolding HasNoContent gather_for or_else
no_content-noted p None from c h e = e
no_content-noted p (Some g) from c h e =
    cond_both (same_stamp g.proposal.stamp p.stamp) g record { proposal = p; acks = []; content = None } (λ (k : Gather). or_else k.content c ≡ None)
    (λ _. rw h e) (λ _. e)

-- if a node has nothing of an object, then it has nothing of it when it notes an acknowledgement without a content of it
pub untouched-noted : (n : Node) (y from : ℕ) (p : Proposal) (c : Option Content) (x : ℕ) → (y ≡ x → c ≡ None) → IsUntouchedNode n x
    → IsUntouchedNode (with_gather n y (Some (noted (gather_for p (gather n y)) from c))) x
untouched-noted n y from p c x says h =
    let g : Option Gather = Some (noted (gather_for p (gather n y)) from c) in
    elim (cases_eq x y) [
      | inl same ↦
          let is : gather (with_gather n y g) x ≡ g = rw same (nth-put_same None n.gathers y g) in
          record {
            stamp = h.stamp;
            place = h.place;
            held = h.held;
            copy = h.copy;
            gather = subst (λ (k : Option Gather). HasNoContent k) (sym is)
                (no_content-noted p (gather n y) from c (subst (λ (i : ℕ). HasNoContent (gather n i)) same h.gather) (says (sym same)));
          }
      | inr other ↦ untouched-as n (with_gather n y g) x refl refl (nth-put_other None n.gathers y x g other) h
    ]

-- another object is settled
pub untouched-settle_other : (n : Node) (y : ℕ) (stamp : Stamp) (place : Place) (x : ℕ) → x ≢ y → IsUntouchedNode n x → IsUntouchedNode (settle n y stamp place) x
unfolding settle
untouched-settle_other n y stamp place x other h =
    let e = settled_entry (entry n y) stamp place in
    let g = gather_above stamp (gather n y) in
    let m = with_gather (with_entry n y e) y g in
    cond_both (is_below (entry n y).stamp stamp) m n (λ (k : Node). IsUntouchedNode k x)
    (λ _. untouched-as n m x (nth-put_other no_entry n.entries y x e other) refl (nth-put_other None n.gathers y x g other) h)
    (λ _. h)

-- if a node has nothing of an object, then it has nothing of it when it brings in another object
pub untouched-bring_other : (n : Node) (y : ℕ) (p : Proposal) (c : Content) (x : ℕ) → x ≢ y → IsUntouchedNode n x → IsUntouchedNode (bring n y p c) x
unfolding bring
untouched-bring_other n y p c x other h =
    cond_both (p.requester == n.me) (with_copy n y (brought p.want c)) n (λ (k : Node). IsUntouchedNode k x)
    (λ _. untouched-as n (with_copy n y (brought p.want c)) x refl (nth-put_other None n.copies y x (brought p.want c) other) refl h)
    (λ _. h)

-- the object is never settled anew
pub never_settled : (n : Node) (x : ℕ) (stamp : Stamp) → IsUntouchedNode n x → stamp ≡ first_stamp → is_below (entry n x).stamp stamp ≡ true → ⊥
never_settled n x stamp h is below =
    let same : (entry n x).stamp ≡ stamp = h.stamp ∙ sym is in
    let not_below : is_below (entry n x).stamp stamp ≡ false = rw same (is_below-irrefl stamp) in
    absurd cc

dropped-none : (gs : List (Option Gather)) (x : ℕ) → nth None (dropped gs) x ≡ None
unfolding nth dropped
dropped-none [] x = refl
dropped-none (g ∷ gs) zero = refl
dropped-none (g ∷ gs) (suc x) = dropped-none gs x

-- if a node has nothing of an object, then it has nothing of it when it installs a view
pub untouched-installed : (n : Node) (e : ℕ) (members : List ℕ) (x : ℕ) → IsUntouchedNode n x
    → IsUntouchedNode (record n { epoch = e; members = members; reported = []; gathers = dropped n.gathers }) x
unfolding HasNoContent
untouched-installed n e members x h =
    record { stamp = h.stamp; place = h.place; held = h.held; copy = h.copy; gather = subst (λ (k : Option Gather). HasNoContent k) (sym (dropped-none n.gathers x)) tt }

-- a source without a copy adds no content
pub untouched-content : (n : Node) (x : ℕ) (place : Place) → IsUntouchedNode n x → own_content n x place ≡ None
unfolding own_content content_of
untouched-content n x place h =
    cond_both (is_source n place) (content_of (copy n x)) None (λ (c : Option Content). c ≡ None) (λ _. rw (h.copy) refl) (λ _. refl)
