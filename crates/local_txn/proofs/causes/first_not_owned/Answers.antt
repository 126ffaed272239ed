use Rattle.std.proofs.Common.{[], refl, sym, ◌∙◌}
use Rattle.local_txn.specs.Tries.{node_of, owner_at}
use Rattle.local_txn.proofs.Against.{first_later, first_not_owned_here, first_not_owned_none, owned_here, owns_at-is}
use Rattle.local_txn.proofs.Committing.{all_read}
use Rattle.local_txn.proofs.causes.first_not_owned.Goals as goal

pub entry-requires : goal.entry-requires
entry-requires c =
    let here = c.loop-object-test.true in
    let is = c.object-item.is in
    all_read _ c.args.objects.now c.loop-object.object-index _ c.requires here is

pub returns-then-not-owns : goal.returns-then-not-owns
returns-then-not-owns c =
    let here = c.loop-object-test.true in
    let is = c.object-item.is in
    let owns = c.owns.ensures (node_of c.args.me c.args.dir.now.entries []) c.object-item.result (sym c.entry.ensures) refl ∙ owns_at-is _ _ _ in
    first_not_owned_here c.args.me c.args.dir.now.entries c.args.objects.now _ _ _ here is owns c.if-not-owns.true ∙ c.loop-object.invariant

pub loop-object-preserved : goal.loop-object-preserved
loop-object-preserved c =
    let here = c.loop-object-test.true in
    let is = c.object-item.is in
    let owns = c.owns.ensures (node_of c.args.me c.args.dir.now.entries []) c.object-item.result (sym c.entry.ensures) refl ∙ owns_at-is _ _ _ in
    first_later (owner_at c.args.me c.args.dir.now.entries) c.args.objects.now _ _ here is (owned_here c.args.me c.args.dir.now.entries _ _ owns c.if-not-owns.false)
    ∙ c.loop-object.invariant

pub returns : goal.returns
returns c =
    let past = c.loop-object-test.false in
    first_not_owned_none c.args.me c.args.dir.now.entries _ _ past ∙ c.loop-object.invariant
