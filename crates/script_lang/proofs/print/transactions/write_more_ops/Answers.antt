use Rattle.std.proofs.Common.{refl}
use Rattle.zeus_base.specs.LoopLaws.{one_more, all_done}
use Rattle.zeus_model.specs.Spelling.{more_op_words, spaced}
use Rattle.script_lang.specs.Lines.{more_op_text}
use Rattle.script_lang.proofs.Printing.{more_op}
use Rattle.script_lang.proofs.print.transactions.write_more_ops.Goals as goal

pub loop-op-preserved : goal.loop-op-preserved
loop-op-preserved c =
    let names = c.args.names.now in
    one_more (λ ops. spaced (more_op_words names ops)) (more_op_text names) (more_op names)
    c.args.ops.now c.loop-op.op-index c.op-item.result c.loop-op.out.items c.write_more_op.new.out.items _
    c.loop-op-test.true c.op-item.is c.loop-op.invariant (c.in_ok-write_more_op.ensures)

pub returns : goal.returns
unfolding more_op_words spaced
returns c = all_done (λ ops. spaced (more_op_words c.args.names.now ops)) refl c.args.ops.now c.loop-op.op-index c.loop-op.out.items _ c.loop-op-test.false c.loop-op.invariant
