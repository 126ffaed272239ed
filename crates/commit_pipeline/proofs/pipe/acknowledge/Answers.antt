use Rattle.std.proofs.Common.{◌≡◌, ◌∙◌, Some, None, sym, slice_get, slice_set}
use Rattle.commit_pipeline.proofs.Acks.{acked_set, counts_none, counts_some}
use Rattle.commit_pipeline.proofs.pipe.acknowledge.Goals as goal

pub returns-in-Some-clause-answer : goal.returns-in-Some-clause-answer
returns-in-Some-clause-answer g c =
    let here : slice_get (g.W.Window.items c.args.entries.now) c.args.place ≡ Some c.in-Some.entry.now = sym c.in-Some.ensures.value in
    c.add_ack.ensures.answer ∙ sym (counts_some (g.W.Window.items c.args.entries.now) c.args.place c.args.from c.in-Some.entry.now here)

pub returns-in-Some-clause-after : goal.returns-in-Some-clause-after
returns-in-Some-clause-after g c =
    let here : slice_get (g.W.Window.items c.args.entries.now) c.args.place ≡ Some c.in-Some.entry.now = sym c.in-Some.ensures.value in
    let written : g.W.Window.items (c.get_mut.follows.lender c.add_ack.new.entry) ≡ slice_set (g.W.Window.items c.args.entries.now) c.args.place c.add_ack.new.entry =
    rw c.in-Some.is at c.get_mut.follows.holds c.add_ack.new.entry
    in
    acked_set (g.W.Window.items c.args.entries.now) _ c.args.place c.args.from c.in-Some.entry.now c.add_ack.new.entry
    c.add_ack.result here written c.add_ack.ensures.after

pub returns-in-None-clause-answer : goal.returns-in-None-clause-answer
returns-in-None-clause-answer g c =
    let none : slice_get (g.W.Window.items c.args.entries.now) c.args.place ≡ None = sym c.in-None.ensures.value in
    sym (counts_none (g.W.Window.items c.args.entries.now) c.args.place c.args.from none)
