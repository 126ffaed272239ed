use Rattle.std.proofs.Common.{◌≤◌, length, arith, length-append, sym}
use Rattle.zeus_txn.specs.Ops.{object_of, mentioned, named}
use Rattle.script_lang.proofs.Gathering.{named-push, length-taken}
use Rattle.script_lang.proofs.builder.TxBuilder.push.Goals as goal

pub note-requires-clause-room : goal.note-requires-clause-room
note-requires-clause-room c =
    let ops = c.self.inside.ops.items in
    let few : length (named ops) ≤ 8 = rw (← c.self.invariant.names) c.self.invariant.objects in
    rw (c.self.invariant.names, c.object.ensures) (length-taken ops (object_of c.args.op.now) (rw (← c.self.view_is) at c.requires.object) few)

pub invariant_of-self : goal.invariant_of-self
invariant_of-self c =
    let ops = c.self.inside.ops.items in
    let few : length (named ops) ≤ 8 = rw (← c.self.invariant.names) c.self.invariant.objects in
    let objects : length (mentioned (named ops) (object_of c.args.op.now)) ≤ 8 = length-taken ops (object_of c.args.op.now) (rw (← c.self.view_is) at c.requires.object) few in
    record {
      ops_room = c.keep.ensures.capacity;
      named_room = c.note.ensures.capacity;
      few = rw (c.keep.ensures.items, length-append) (omega (arith, rw (← c.self.view_is) at c.requires.room));
      objects = rw (c.note.ensures.items, c.self.invariant.names, c.object.ensures) objects;
      names = rw (c.note.ensures.items, c.keep.ensures.items, c.self.invariant.names, c.object.ensures) (sym (named-push ops c.args.op.now));
    }
