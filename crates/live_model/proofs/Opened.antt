-- One name whose unfolding line opens the whole live run, so that a run of it is computed by `refl`.
use Rattle.std.specs.Prelude.{ℕ}
use Rattle.live_model.specs.Items.{travels}
use Rattle.live_model.specs.Cell.{step_of, stamp, does, notes_down, after, core_from, AreClocks, BeginsFresh, BeginFresh, DeedFits, DeedsFit, is_halt, is_killed, IsEmpty, HaltsOnly, taken_from, takes, job_of, jobs, seen_in, sights_seen, posts_to, posts_from, numbered, sends, travelling, halt_of, halts}
use Rattle.live_model.specs.Ends.{acked_at, refused_by, refused_at, ends_at, answer_to, answers_at, answers_from, waits_from, is_of, some_waits, awaited, is_open_at, stopped_at, stops_at, notes_from}
use Rattle.live_model.specs.Service.{made, viewed, views_from, AreServiceClocks, AreViews, HaltsFit, halts_taken, sight_at, sights_from}
use Rattle.live_model.specs.Client.{AreJobs, greatest_clock}
use Rattle.live_model.specs.Merge.{behind_empty, earlier, pick, first_in, rest_in, merge_of, count_all, clock_in, step_in, cell_journals, journals, merged, entry_of, cell_turns, all_turns, turns}
use Rattle.live_model.specs.Drive.{is_step_of, is_due, stop_of, counts_as, offer, each_number, may_follow, can_begin, with_next, delivery_item, round, rounds_of, lengths, all_lengths, count_of, drive}

unfoldable pub live : ℕ
unfolding travels step_of stamp does notes_down after core_from AreClocks BeginsFresh BeginFresh DeedFits DeedsFit is_halt is_killed IsEmpty HaltsOnly taken_from takes job_of jobs seen_in sights_seen posts_to posts_from numbered sends travelling halt_of halts acked_at refused_by refused_at ends_at answer_to answers_at answers_from waits_from is_of some_waits awaited is_open_at stopped_at stops_at notes_from made viewed views_from AreServiceClocks AreViews HaltsFit halts_taken sight_at sights_from AreJobs greatest_clock behind_empty earlier pick first_in rest_in merge_of count_all clock_in step_in cell_journals journals merged entry_of cell_turns all_turns turns is_step_of is_due stop_of counts_as offer each_number may_follow can_begin with_next delivery_item round rounds_of lengths all_lengths count_of drive
live = 0
