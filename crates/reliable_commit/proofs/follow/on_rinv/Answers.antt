use Rattle.std.proofs.Common.{refl, sym, ◌∙◌}
use Rattle.zeus_model.specs.Commit.{raise}
use Rattle.follower_log.specs.Streams.{outcome_of}
use Rattle.follower_log.specs.declared.stored.Store.TheVariants.{Stored, Again, Gap, Window}
use Rattle.reliable_commit.specs.Following.{rinv_acks, rinv_outcome}
use Rattle.reliable_commit.proofs.Taking.{copies_after, on_rinv-other, on_rinv-own, other_is, own_is, raised_node, sent_after, sent_after-raise, stored_copies, stored_followed, stored_sent}
use Rattle.reliable_commit.proofs.follow.on_rinv.Goals as goal

pub returns-then-eq-clause-answer : goal.returns-then-eq-clause-answer
unfolding rinv_outcome
returns-then-eq-clause-answer c = λ n from node.
    rw (on_rinv-own n from c.args.r.now (own_is _ _ (sym c.eq.ensures ∙ c.if-eq.true) ∙ sym node.me)) refl

pub returns-then-eq-clause-acks : goal.returns-then-eq-clause-acks
unfolding rinv_acks
returns-then-eq-clause-acks c = λ n from node.
    rw (on_rinv-own n from c.args.r.now (own_is _ _ (sym c.eq.ensures ∙ c.if-eq.true) ∙ sym node.me)) refl

pub returns-then-eq-clause-copies : goal.returns-then-eq-clause-copies
returns-then-eq-clause-copies c = λ n from node.
    rw (on_rinv-own n from c.args.r.now (own_is _ _ (sym c.eq.ensures ∙ c.if-eq.true) ∙ sym node.me)) (sym node.copies)

pub returns-then-eq-clause-logs : goal.returns-then-eq-clause-logs
returns-then-eq-clause-logs c = λ n from node.
    rw (on_rinv-own n from c.args.r.now (own_is _ _ (sym c.eq.ensures ∙ c.if-eq.true) ∙ sym node.me)) (sym node.logs)

pub returns-in-Stored-clause-answer : goal.returns-in-Stored-clause-answer
unfolding rinv_outcome outcome_of
returns-in-Stored-clause-answer c = λ n from node.
    let other = on_rinv-other n from c.args.r.now (λ same. other_is _ _ (sym c.eq.ensures ∙ c.if-eq.false) (same ∙ node.me)) in
    let raised = raised_node n _ _ _ _ _ c.args.r.now.stream c.args.r.now.done node c.raise.ensures.copies c.raise.ensures.logs in
    let answer = c.in-Stored.ensures.answer (raise n c.args.r.now.stream c.args.r.now.done) from raised.logs in
    rw other answer

pub returns-in-Stored-clause-acks : goal.returns-in-Stored-clause-acks
unfolding rinv_acks outcome_of sent_after
returns-in-Stored-clause-acks c = λ n from node.
    let other = on_rinv-other n from c.args.r.now (λ same. other_is _ _ (sym c.eq.ensures ∙ c.if-eq.false) (same ∙ node.me)) in
    let raised = raised_node n _ _ _ _ _ c.args.r.now.stream c.args.r.now.done node c.raise.ensures.copies c.raise.ensures.logs in
    let answer = c.in-Stored.ensures.answer (raise n c.args.r.now.stream c.args.r.now.done) from raised.logs in
    rw other (stored_sent _ from c.args.r.now (outcome_of Stored) answer ∙ sent_after-raise (outcome_of Stored) n c.args.r.now.stream c.args.r.now.done from c.args.r.now)

pub returns-in-Stored-clause-copies : goal.returns-in-Stored-clause-copies
unfolding outcome_of copies_after
returns-in-Stored-clause-copies c = λ n from node.
    let other = on_rinv-other n from c.args.r.now (λ same. other_is _ _ (sym c.eq.ensures ∙ c.if-eq.false) (same ∙ node.me)) in
    let raised = raised_node n _ _ _ _ _ c.args.r.now.stream c.args.r.now.done node c.raise.ensures.copies c.raise.ensures.logs in
    let answer = c.in-Stored.ensures.answer (raise n c.args.r.now.stream c.args.r.now.done) from raised.logs in
    rw (other, stored_copies _ from c.args.r.now _ answer, raised.copies, c.apply_each.ensures.copies, c.as_slice.ensures) refl

pub returns-in-Stored-clause-logs : goal.returns-in-Stored-clause-logs
returns-in-Stored-clause-logs c = λ n from node.
    let other = on_rinv-other n from c.args.r.now (λ same. other_is _ _ (sym c.eq.ensures ∙ c.if-eq.false) (same ∙ node.me)) in
    let raised = raised_node n _ _ _ _ _ c.args.r.now.stream c.args.r.now.done node c.raise.ensures.copies c.raise.ensures.logs in
    let answer = c.in-Stored.ensures.answer (raise n c.args.r.now.stream c.args.r.now.done) from raised.logs in
    rw other (c.in-Stored.ensures.after (raise n c.args.r.now.stream c.args.r.now.done) from raised.logs)

pub returns-in-Stored-clause-streams : goal.returns-in-Stored-clause-streams
returns-in-Stored-clause-streams c = λ t there.
    stored_followed _ _ _ c.args.r.now t (c.raise.ensures.streams c.args.r.now.stream c.requires.followed) c.requires.writes c.in-Stored.ensures.after (c.raise.ensures.streams t there)

pub returns-in-Again-clause-answer : goal.returns-in-Again-clause-answer
unfolding rinv_outcome outcome_of
returns-in-Again-clause-answer c = λ n from node.
    let other = on_rinv-other n from c.args.r.now (λ same. other_is _ _ (sym c.eq.ensures ∙ c.if-eq.false) (same ∙ node.me)) in
    let raised = raised_node n _ _ _ _ _ c.args.r.now.stream c.args.r.now.done node c.raise.ensures.copies c.raise.ensures.logs in
    let answer = c.in-Again.ensures.answer (raise n c.args.r.now.stream c.args.r.now.done) from raised.logs in
    rw other answer

pub returns-in-Again-clause-acks : goal.returns-in-Again-clause-acks
unfolding rinv_acks outcome_of sent_after
returns-in-Again-clause-acks c = λ n from node.
    let other = on_rinv-other n from c.args.r.now (λ same. other_is _ _ (sym c.eq.ensures ∙ c.if-eq.false) (same ∙ node.me)) in
    let raised = raised_node n _ _ _ _ _ c.args.r.now.stream c.args.r.now.done node c.raise.ensures.copies c.raise.ensures.logs in
    let answer = c.in-Again.ensures.answer (raise n c.args.r.now.stream c.args.r.now.done) from raised.logs in
    rw other (stored_sent _ from c.args.r.now (outcome_of Again) answer ∙ sent_after-raise (outcome_of Again) n c.args.r.now.stream c.args.r.now.done from c.args.r.now)

pub returns-in-Again-clause-copies : goal.returns-in-Again-clause-copies
unfolding outcome_of copies_after
returns-in-Again-clause-copies c = λ n from node.
    let other = on_rinv-other n from c.args.r.now (λ same. other_is _ _ (sym c.eq.ensures ∙ c.if-eq.false) (same ∙ node.me)) in
    let raised = raised_node n _ _ _ _ _ c.args.r.now.stream c.args.r.now.done node c.raise.ensures.copies c.raise.ensures.logs in
    let answer = c.in-Again.ensures.answer (raise n c.args.r.now.stream c.args.r.now.done) from raised.logs in
    rw (other, stored_copies _ from c.args.r.now _ answer, raised.copies) refl

pub returns-in-Again-clause-logs : goal.returns-in-Again-clause-logs
returns-in-Again-clause-logs c = λ n from node.
    let other = on_rinv-other n from c.args.r.now (λ same. other_is _ _ (sym c.eq.ensures ∙ c.if-eq.false) (same ∙ node.me)) in
    let raised = raised_node n _ _ _ _ _ c.args.r.now.stream c.args.r.now.done node c.raise.ensures.copies c.raise.ensures.logs in
    let answer = c.in-Again.ensures.answer (raise n c.args.r.now.stream c.args.r.now.done) from raised.logs in
    rw other (c.in-Again.ensures.after (raise n c.args.r.now.stream c.args.r.now.done) from raised.logs)

pub returns-in-Again-clause-streams : goal.returns-in-Again-clause-streams
returns-in-Again-clause-streams c = λ t there.
    stored_followed _ _ _ c.args.r.now t (c.raise.ensures.streams c.args.r.now.stream c.requires.followed) c.requires.writes c.in-Again.ensures.after (c.raise.ensures.streams t there)

pub returns-in-Gap-clause-answer : goal.returns-in-Gap-clause-answer
unfolding rinv_outcome outcome_of
returns-in-Gap-clause-answer c = λ n from node.
    let other = on_rinv-other n from c.args.r.now (λ same. other_is _ _ (sym c.eq.ensures ∙ c.if-eq.false) (same ∙ node.me)) in
    let raised = raised_node n _ _ _ _ _ c.args.r.now.stream c.args.r.now.done node c.raise.ensures.copies c.raise.ensures.logs in
    let answer = c.in-Gap.ensures.answer (raise n c.args.r.now.stream c.args.r.now.done) from raised.logs in
    rw other answer

pub returns-in-Gap-clause-acks : goal.returns-in-Gap-clause-acks
unfolding rinv_acks outcome_of sent_after
returns-in-Gap-clause-acks c = λ n from node.
    let other = on_rinv-other n from c.args.r.now (λ same. other_is _ _ (sym c.eq.ensures ∙ c.if-eq.false) (same ∙ node.me)) in
    let raised = raised_node n _ _ _ _ _ c.args.r.now.stream c.args.r.now.done node c.raise.ensures.copies c.raise.ensures.logs in
    let answer = c.in-Gap.ensures.answer (raise n c.args.r.now.stream c.args.r.now.done) from raised.logs in
    rw other (stored_sent _ from c.args.r.now (outcome_of (Gap c.in-Gap.next)) answer ∙ sent_after-raise (outcome_of (Gap c.in-Gap.next)) n c.args.r.now.stream c.args.r.now.done from c.args.r.now)

pub returns-in-Gap-clause-copies : goal.returns-in-Gap-clause-copies
unfolding outcome_of copies_after
returns-in-Gap-clause-copies c = λ n from node.
    let other = on_rinv-other n from c.args.r.now (λ same. other_is _ _ (sym c.eq.ensures ∙ c.if-eq.false) (same ∙ node.me)) in
    let raised = raised_node n _ _ _ _ _ c.args.r.now.stream c.args.r.now.done node c.raise.ensures.copies c.raise.ensures.logs in
    let answer = c.in-Gap.ensures.answer (raise n c.args.r.now.stream c.args.r.now.done) from raised.logs in
    rw (other, stored_copies _ from c.args.r.now _ answer, raised.copies) refl

pub returns-in-Gap-clause-logs : goal.returns-in-Gap-clause-logs
returns-in-Gap-clause-logs c = λ n from node.
    let other = on_rinv-other n from c.args.r.now (λ same. other_is _ _ (sym c.eq.ensures ∙ c.if-eq.false) (same ∙ node.me)) in
    let raised = raised_node n _ _ _ _ _ c.args.r.now.stream c.args.r.now.done node c.raise.ensures.copies c.raise.ensures.logs in
    let answer = c.in-Gap.ensures.answer (raise n c.args.r.now.stream c.args.r.now.done) from raised.logs in
    rw other (c.in-Gap.ensures.after (raise n c.args.r.now.stream c.args.r.now.done) from raised.logs)

pub returns-in-Gap-clause-streams : goal.returns-in-Gap-clause-streams
returns-in-Gap-clause-streams c = λ t there.
    stored_followed _ _ _ c.args.r.now t (c.raise.ensures.streams c.args.r.now.stream c.requires.followed) c.requires.writes c.in-Gap.ensures.after (c.raise.ensures.streams t there)

pub returns-in-Window-clause-answer : goal.returns-in-Window-clause-answer
unfolding rinv_outcome outcome_of
returns-in-Window-clause-answer c = λ n from node.
    let other = on_rinv-other n from c.args.r.now (λ same. other_is _ _ (sym c.eq.ensures ∙ c.if-eq.false) (same ∙ node.me)) in
    let raised = raised_node n _ _ _ _ _ c.args.r.now.stream c.args.r.now.done node c.raise.ensures.copies c.raise.ensures.logs in
    let answer = c.in-Window.ensures.answer (raise n c.args.r.now.stream c.args.r.now.done) from raised.logs in
    rw other answer

pub returns-in-Window-clause-acks : goal.returns-in-Window-clause-acks
unfolding rinv_acks outcome_of sent_after
returns-in-Window-clause-acks c = λ n from node.
    let other = on_rinv-other n from c.args.r.now (λ same. other_is _ _ (sym c.eq.ensures ∙ c.if-eq.false) (same ∙ node.me)) in
    let raised = raised_node n _ _ _ _ _ c.args.r.now.stream c.args.r.now.done node c.raise.ensures.copies c.raise.ensures.logs in
    let answer = c.in-Window.ensures.answer (raise n c.args.r.now.stream c.args.r.now.done) from raised.logs in
    rw other (stored_sent _ from c.args.r.now (outcome_of Window) answer ∙ sent_after-raise (outcome_of Window) n c.args.r.now.stream c.args.r.now.done from c.args.r.now)

pub returns-in-Window-clause-copies : goal.returns-in-Window-clause-copies
unfolding outcome_of copies_after
returns-in-Window-clause-copies c = λ n from node.
    let other = on_rinv-other n from c.args.r.now (λ same. other_is _ _ (sym c.eq.ensures ∙ c.if-eq.false) (same ∙ node.me)) in
    let raised = raised_node n _ _ _ _ _ c.args.r.now.stream c.args.r.now.done node c.raise.ensures.copies c.raise.ensures.logs in
    let answer = c.in-Window.ensures.answer (raise n c.args.r.now.stream c.args.r.now.done) from raised.logs in
    rw (other, stored_copies _ from c.args.r.now _ answer, raised.copies) refl

pub returns-in-Window-clause-logs : goal.returns-in-Window-clause-logs
returns-in-Window-clause-logs c = λ n from node.
    let other = on_rinv-other n from c.args.r.now (λ same. other_is _ _ (sym c.eq.ensures ∙ c.if-eq.false) (same ∙ node.me)) in
    let raised = raised_node n _ _ _ _ _ c.args.r.now.stream c.args.r.now.done node c.raise.ensures.copies c.raise.ensures.logs in
    let answer = c.in-Window.ensures.answer (raise n c.args.r.now.stream c.args.r.now.done) from raised.logs in
    rw other (c.in-Window.ensures.after (raise n c.args.r.now.stream c.args.r.now.done) from raised.logs)

pub returns-in-Window-clause-streams : goal.returns-in-Window-clause-streams
returns-in-Window-clause-streams c = λ t there.
    stored_followed _ _ _ c.args.r.now t (c.raise.ensures.streams c.args.r.now.stream c.requires.followed) c.requires.writes c.in-Window.ensures.after (c.raise.ensures.streams t there)
