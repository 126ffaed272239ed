use Rattle.std.proofs.Common.{◌≡◌, Ok, arith}
use Rattle.script_lang.specs.Cut.{cut}
use Rattle.zeus_audit.specs.declared.stage.Mark.TheVariants as marks
use Rattle.zeus_audit.specs.Progress.{state_of, mark_of}
use Rattle.zeus_audit.specs.Shapes.{ack_shape}
use Rattle.zeus_audit.proofs.Fits.{marked_within}
use Rattle.zeus_audit.proofs.Replying.{ack_from}
use Rattle.zeus_audit.proofs.events.take_ack.Goals as goal

pub index_mut-requires : goal.index_mut-requires
index_mut-requires c =
    let passed : mark_of (state_of c.args.progress.now) c.in_ok-id.id ≡ marks.Passed = cc c.in-Passed.ensures in
    let within = marked_within c.args.progress.now.marks.items c.in_ok-id.id (λ e. cc) in
    let size = c.args.progress.now.marks.ok in
    omega arith

pub returns : goal.returns
returns c =
    let passed : mark_of (state_of c.args.progress.now) c.in_ok-id.id ≡ marks.Passed = cc c.in-Passed.ensures in
    let shape : ack_shape (cut 32 c.args.line.now) ≡ Ok c.in_ok-id.id = cc (c.in_ok-id.ensures, c.new.ensures) in
    ack_from (state_of c.args.progress.now) c.args.told c.in_ok-id.id c.args.line.now shape passed
