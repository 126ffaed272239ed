use Rattle.soundness.proofs.Runs.{run-sound, run-config, prefix-sound}
use Rattle.soundness.proofs.RunsTold.{run-in_order, run-placed, run-replies}
use Rattle.soundness.proofs.every_run_is_sound.Goals as goal

pub returns-clause-one_owner : goal.returns-clause-one_owner
returns-clause-one_owner c = λ config txs steps keeps fit fits x a b within one other.
    (run-sound config txs steps keeps fit fits).one_owner x a b (rw (run-config config txs steps keeps fits) within) one other

pub returns-clause-one_history : goal.returns-clause-one_history
returns-clause-one_history c = λ config txs steps keeps fit fits. (run-sound config txs steps keeps fit fits).one_history

pub returns-clause-serial : goal.returns-clause-serial
returns-clause-serial c = λ config txs steps keeps fit fits. (run-sound config txs steps keeps fit fits).serial

pub returns-clause-copies : goal.returns-clause-copies
returns-clause-copies c = λ config txs steps keeps fit fits x n within live member.
    (run-sound config txs steps keeps fit fits).copies x n (rw (run-config config txs steps keeps fits) within) live member

pub returns-clause-at_every_moment : goal.returns-clause-at_every_moment
returns-clause-at_every_moment c = λ config txs steps keeps fit fits k. prefix-sound config txs steps k keeps fit fits

pub returns-clause-in_order : goal.returns-clause-in_order
returns-clause-in_order c = λ config txs steps keeps fit fits. (run-in_order config txs steps keeps fit fits).in_order

pub returns-clause-real_time : goal.returns-clause-real_time
returns-clause-real_time c = λ config txs steps keeps fit fits. (run-in_order config txs steps keeps fit fits).real_time

pub returns-clause-replies : goal.returns-clause-replies
returns-clause-replies c = λ config txs steps keeps fit fits. run-replies config txs steps keeps fit fits

pub returns-clause-one_placement : goal.returns-clause-one_placement
returns-clause-one_placement c = λ config txs steps keeps fit fits.
    let same = run-config config txs steps keeps fits in
    λ x a b within first second. (run-placed config txs steps keeps fit fits).one_placement x a b (rw same within) (rw same first) (rw same second)

pub returns-clause-latest_placement : goal.returns-clause-latest_placement
returns-clause-latest_placement c = λ config txs steps keeps fit fits x within.
    (run-placed config txs steps keeps fit fits).latest x (rw (run-config config txs steps keeps fits) within)

pub returns-clause-copies_where_placed : goal.returns-clause-copies_where_placed
returns-clause-copies_where_placed c = λ config txs steps keeps fit fits x n within.
    (run-placed config txs steps keeps fit fits).copies_where_placed x n (rw (run-config config txs steps keeps fits) within)

pub returns-clause-live_copies : goal.returns-clause-live_copies
returns-clause-live_copies c = λ config txs steps keeps fit fits x n held within.
    (run-placed config txs steps keeps fit fits).live_copies x n held (rw (run-config config txs steps keeps fits) within)
