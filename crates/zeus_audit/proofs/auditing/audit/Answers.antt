use Rattle.std.proofs.Common.{ap, sym, ◌∙◌}
use Rattle.script_lang.specs.Cut.{cut}
use Rattle.zeus_audit.specs.Auditing.{lines_taken, verdict_of, audited}
use Rattle.zeus_audit.specs.Progress.{State}
use Rattle.zeus_audit.proofs.Fits.{fits_start}
use Rattle.zeus_audit.proofs.Implies.{sound_serial}
use Rattle.zeus_audit.proofs.auditing.audit.Goals as goal

pub verdict_of-requires-clause-fits : goal.verdict_of-requires-clause-fits
verdict_of-requires-clause-fits c = rw c.in_ok-progress.ensures (fits_start c.args.script.now)

pub returns : goal.returns
unfolding audited
returns c =
    let found = c.in_ok-verdict.ensures ∙ ap (λ (st : State). verdict_of (lines_taken c.args.script.now st 1 (cut 10 c.args.text.now))) c.in_ok-progress.ensures in
    record { verdict = found; serial = λ sound. sound_serial c.args.script.now c.args.text.now c.requires.script (sym found ∙ sound) }
