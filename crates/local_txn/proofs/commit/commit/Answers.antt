use Rattle.std.proofs.Common.{◌≡◌, [], ◌∷◌, ◌++◌, None, length, refl, ap, ◌∙◌}
use Rattle.zeus_txn.specs.declared.reply.Ran.{Ran}
use Rattle.zeus_model.specs.declared.state.Pending.{Pending}
use Rattle.zeus_model.specs.Commit.{each_write}
use Rattle.zeus_model.specs.Local.{rewritten_copy}
use Rattle.zeus_model.specs.State.{value_of}
use Rattle.zeus_model.specs.Tables.{nth}
use Rattle.object_table.specs.WriteLaws.{length-each_write}
use Rattle.object_table.specs.EntryLaws.{within-push}
use Rattle.object_table.specs.HeldLaws.{named-others}
use Rattle.local_txn.specs.Tries.{entry_here, node_of, tried_as}
use Rattle.local_txn.proofs.Answering.{entry_made, writes_made}
use Rattle.local_txn.proofs.Committing.{can_hold_named, named_kept, writes_next, writes_within}
use Rattle.local_txn.proofs.Worn.{run_rising}
use Rattle.local_txn.proofs.commit.commit.Goals as goal

pub new_writes-writes-requires : goal.new_writes-writes-requires
new_writes-writes-requires c =
    let copies = c.args.copies.now.copies in
    let ran = c.run_on-ran.ensures (node_of c.args.me c.args.dir.now.entries copies) refl in
    rw ran (run_rising copies (λ x. value_of (nth None copies x)) c.args.tx.now c.requires.clear.unworn)

pub replicas-requires : goal.replicas-requires
replicas-requires c =
    let copies = c.args.copies.now.copies in
    let n = node_of c.args.me c.args.dir.now.entries copies in
    let ran = c.run_on-ran.ensures n refl in
    let made = writes_made c.args.me c.args.dir.now.entries copies c.args.tx.now _ _ ran c.new_writes-writes.ensures in
    rw (made, c.requires.places) (writes_within n (length copies) c.args.tx.now c.requires.objects)

pub write_each-requires : goal.write_each-requires
write_each-requires c =
    let copies = c.args.copies.now.copies in
    let n = node_of c.args.me c.args.dir.now.entries copies in
    let ran = c.run_on-ran.ensures n refl in
    let made = writes_made c.args.me c.args.dir.now.entries copies c.args.tx.now _ _ ran c.new_writes-writes.ensures in
    let rises = run_rising copies (λ x. value_of (nth None copies x)) c.args.tx.now c.requires.clear.unworn in
    rw made (writes_next n c.args.tx.now c.requires.objects rises)

pub hold_each-requires : goal.hold_each-requires
hold_each-requires c =
    let copies = c.args.copies.now.copies in
    let n = node_of c.args.me c.args.dir.now.entries copies in
    let ran = c.run_on-ran.ensures n refl in
    let made = writes_made c.args.me c.args.dir.now.entries copies c.args.tx.now _ _ ran c.new_writes-writes.ensures in
    let within = writes_within n (length copies) c.args.tx.now c.requires.objects in
    let size : length c.write_each.new.copies.copies ≡ length copies =
    ap length (c.write_each.ensures.copies ∙ ap (each_write rewritten_copy copies) made)
    ∙ length-each_write rewritten_copy copies _ (length copies) refl within
    in
    rw (size, c.write_each.ensures.holds, c.named-named.ensures)
    (can_hold_named c.args.slot (length copies) c.args.copies.now.holds c.args.pipe.now.pending c.args.tx.now c.requires.objects c.requires.clear.free c.requires.holds c.requires.clear.room)

pub returns-in-Ok-clause-answer : goal.returns-in-Ok-clause-answer
unfolding tried_as
returns-in-Ok-clause-answer c =
    let n = node_of c.args.me c.args.dir.now.entries c.args.copies.now.copies in
    let ran = c.run_on-ran.ensures n refl in
    rw (c.in-Ok.ensures.number, c.into_reply-reply.ensures, ran) refl

pub returns-in-Ok-clause-copies : goal.returns-in-Ok-clause-copies
returns-in-Ok-clause-copies c =
    let copies = c.args.copies.now.copies in
    let n = node_of c.args.me c.args.dir.now.entries copies in
    let ran = c.run_on-ran.ensures n refl in
    let made = writes_made c.args.me c.args.dir.now.entries copies c.args.tx.now _ _ ran c.new_writes-writes.ensures in
    c.hold_each.ensures.copies ∙ c.write_each.ensures.copies ∙ ap (each_write rewritten_copy copies) made

pub returns-in-Ok-clause-pending : goal.returns-in-Ok-clause-pending
returns-in-Ok-clause-pending c =
    let copies = c.args.copies.now.copies in
    let n = node_of c.args.me c.args.dir.now.entries copies in
    let ran = c.run_on-ran.ensures n refl in
    let made = writes_made c.args.me c.args.dir.now.entries copies c.args.tx.now _ _ ran c.new_writes-writes.ensures in
    let reply = c.duplicate.ensures ∙ c.into_reply-reply.ensures ∙ ap (λ (r : Ran). r.reply) ran in
    let followers = rw c.replicas.ensures at c.without-followers.ensures in
    rw (c.in-Ok.ensures.after, c.named-named.ensures, c.empty.ensures)
    (ap (λ (p : Pending). c.args.pipe.now.pending ++ p ∷ []) (entry_made c.args.me c.args.dir.now.entries copies c.args.id c.args.tx.now _ _ _ reply made followers))

pub returns-in-Ok-clause-named : goal.returns-in-Ok-clause-named
returns-in-Ok-clause-named c =
    rw (c.in-Ok.ensures.after, c.hold_each.ensures.holds, c.write_each.ensures.holds, c.named-named.ensures)
    (named_kept c.args.slot c.args.copies.now.holds c.args.pipe.now.pending _ c.args.tx.now refl c.requires.clear.free c.requires.holds c.requires.clear.room)

pub returns-in-Ok-clause-others : goal.returns-in-Ok-clause-others
returns-in-Ok-clause-others c = λ t ps other counts.
    rw (c.hold_each.ensures.holds, c.write_each.ensures.holds) (named-others c.args.slot t _ c.args.copies.now.holds ps other counts)

pub returns-in-Ok-clause-within : goal.returns-in-Ok-clause-within
returns-in-Ok-clause-within c = λ before.
    let copies = c.args.copies.now.copies in
    let n = node_of c.args.me c.args.dir.now.entries copies in
    rw (returns-in-Ok-clause-pending c)
    (within-push (length copies) c.args.pipe.now.pending (entry_here n c.args.id c.args.tx.now) before record {
      writes = writes_within n (length copies) c.args.tx.now c.requires.objects;
      named = c.requires.objects;
    })
