use Rattle.std.proofs.Common.{◌≡◌, Ok, arith, sym}
use Rattle.std.proofs.lemmas.Option.{slice_get_within}
use Rattle.script_lang.specs.Cut.{cut}
use Rattle.zeus_audit.specs.declared.stage.Mark.TheVariants as marks
use Rattle.zeus_audit.specs.Progress.{state_of, mark_of}
use Rattle.zeus_audit.specs.Shapes.{point_shape}
use Rattle.zeus_audit.proofs.Fits.{marked_within}
use Rattle.zeus_audit.proofs.Replying.{declared_ops, declared_objects, few_versions, never_unknown, point_from}
use Rattle.zeus_audit.proofs.replies.take_point.Goals as goal

pub overflow_cast-number : goal.overflow_cast-number
overflow_cast-number c =
    let within = slice_get_within c.args.script.now.txs c.in_ok-id.id c.in-Some.declared.now (sym c.in-Some.ensures) in
    let few = c.requires.script.txs.few in
    omega arith

pub take_reply-requires : goal.take_reply-requires
take_reply-requires c =
    let st = state_of c.args.progress.now in
    let begun : mark_of st c.in_ok-id.id ≡ marks.Begun = cc c.in-Begun.ensures in
    record {
      there = marked_within st.marks c.in_ok-id.id (λ e. cc);
      objects = declared_objects c.args.script.now st c.in_ok-id.id c.in-Some.declared.now c.requires.script c.requires.fits c.in-Some.ensures;
      versions = λ x _. few_versions c.args.script.now st x c.requires.script c.requires.fits;
    }

pub returns-in-Some : goal.returns-in-Some
returns-in-Some c =
    let st = state_of c.args.progress.now in
    let begun : mark_of st c.in_ok-id.id ≡ marks.Begun = cc c.in-Begun.ensures in
    let shape : point_shape c.args.script.now.config.version (cut 32 c.args.line.now) ≡ Ok c.in_ok-id.id = cc (c.in_ok-id.ensures, c.new.ensures) in
    rw (point_from c.args.script.now st c.in_ok-id.id c.in-Some.declared.now.tx c.args.line.now shape begun (declared_ops c.args.script.now c.in_ok-id.id c.in-Some.declared.now c.in-Some.ensures)) c.take_reply.ensures

pub returns-in-None : goal.returns-in-None
returns-in-None c =
    let st = state_of c.args.progress.now in
    let begun : mark_of st c.in_ok-id.id ≡ marks.Begun = cc c.in-Begun.ensures in
    absurd (never_unknown c.args.script.now st c.in_ok-id.id c.requires.fits begun c.in-None.ensures)
