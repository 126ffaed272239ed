use Rattle.soundness.proofs.NeverReceive.{run_never_refused}
use Rattle.soundness.proofs.NeverAnswers.{never-own_stream, never-window, never-not_arbiter, never-not_collector, never-own_place}
use Rattle.soundness.proofs.Fitting.{fits-steps}
use Rattle.soundness.proofs.never_refused_so.Goals as goal

pub returns : goal.returns
returns c = λ config txs steps s keeps fits.
    let never = run_never_refused config txs steps s keeps (fits-steps config txs steps fits) in
    (λ e. never (never-own_stream _ e), λ e. never (never-window _ e), λ e. never (never-not_arbiter _ e), λ e. never (never-not_collector _ e), λ e. never (never-own_place _ e))
