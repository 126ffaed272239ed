-- Each clause is a lemma of its own.
use Rattle.live_replay.proofs.Closings.{closed-same, all_closed-same}
use Rattle.live_replay.proofs.Gone.{replay-gone, replay-gone_closed}
use Rattle.live_replay.proofs.Lengths.{merged-few}
use Rattle.live_replay.proofs.Lost.{replay-lost_gone}
use Rattle.live_replay.proofs.Results.{replay-steps, replay-cells, replay-service, replay-clocks, replay-fits, replay-answer, replay-acked, replay-hits, replay-begun, replay-after, replay-sound, replay-node, replay-views, replay-link, replay-book, replay-jobs, replay-answers}
use Rattle.live_replay.proofs.merged_journals_are_a_run.Goals as goal

pub returns-clause-steps : goal.returns-clause-steps
returns-clause-steps c = replay-steps

pub returns-clause-cells : goal.returns-clause-cells
returns-clause-cells c = replay-cells

pub returns-clause-service : goal.returns-clause-service
returns-clause-service c = replay-service

pub returns-clause-clocks : goal.returns-clause-clocks
returns-clause-clocks c = replay-clocks

pub returns-clause-fit : goal.returns-clause-fit
returns-clause-fit c = replay-fits

pub returns-clause-answers : goal.returns-clause-answers
returns-clause-answers c = replay-answer

pub returns-clause-acknowledgements : goal.returns-clause-acknowledgements
returns-clause-acknowledgements c = replay-acked

pub returns-clause-nothing_missed : goal.returns-clause-nothing_missed
returns-clause-nothing_missed c = replay-hits

pub returns-clause-begun : goal.returns-clause-begun
returns-clause-begun c = replay-begun

pub returns-clause-after : goal.returns-clause-after
returns-clause-after c = replay-after

pub returns-clause-sound : goal.returns-clause-sound
returns-clause-sound c = replay-sound

pub returns-clause-nodes : goal.returns-clause-nodes
returns-clause-nodes c = replay-node

pub returns-clause-views : goal.returns-clause-views
returns-clause-views c = replay-views

pub returns-clause-links : goal.returns-clause-links
returns-clause-links c = replay-link

pub returns-clause-books : goal.returns-clause-books
returns-clause-books c = replay-book

pub returns-clause-jobs : goal.returns-clause-jobs
returns-clause-jobs c = replay-jobs

pub returns-clause-client_answers : goal.returns-clause-client_answers
returns-clause-client_answers c = replay-answers

pub returns-clause-few : goal.returns-clause-few
returns-clause-few c = merged-few

pub returns-clause-closed : goal.returns-clause-closed
returns-clause-closed c = closed-same

pub returns-clause-all_closed : goal.returns-clause-all_closed
returns-clause-all_closed c = all_closed-same

pub returns-clause-gone : goal.returns-clause-gone
returns-clause-gone c = replay-gone

pub returns-clause-gone_closed : goal.returns-clause-gone_closed
returns-clause-gone_closed c = replay-gone_closed

pub returns-clause-lost_gone : goal.returns-clause-lost_gone
returns-clause-lost_gone c p k es id t x h at own waits lost clock notes =
    replay-lost_gone p k es id t x h at (record { own = own; waits = waits; lost = lost; clock = clock; notes = notes })
