use Rattle.std.proofs.Common.{◌≡◌, true, arith}
use Rattle.std.specs.Str.{bytes_eq}
use Rattle.zeus_txn.specs.Map.{run_at}
use Rattle.zeus_audit.specs.Progress.{state_of}
use Rattle.zeus_audit.specs.Texts.{point_text}
use Rattle.zeus_audit.proofs.Replying.{reply_from}
use Rattle.zeus_audit.proofs.replies.take_reply.Goals as goal

pub returns : goal.returns
returns c =
    let yes : c.in_ok-is_point.field-0 ≡ true = grind arith in
    let told = rw c.apply-reply.ensures.reply at c.in_ok-is_point.ensures in
    let same : bytes_eq c.args.line.now (point_text c.args.id (run_at c.args.progress.now.map c.args.tx.now).reply) ≡ true = rw (← told) yes in
    rw c.place.ensures (reply_from (state_of c.args.progress.now) c.args.id c.args.tx.now c.args.line.now c.apply-reply.new.self c.push.new.self.items c.requires.there same c.in_ok-push.ensures.items c.apply-reply.ensures.map)
