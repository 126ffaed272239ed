-- Names whose unfolding lines open the machine by topic, and one that opens all of it, so that a run is computed by `refl`.
use Rattle.std.specs.Prelude.{ℕ}
use Rattle.std.specs.Fmt.{digits}
use Rattle.zeus_base.specs.Nodes.{has, with_node, without, meet, join, is_subset, least}
use Rattle.zeus_base.specs.Order.{is_below, same_stamp, is_before, same_stream}
use Rattle.zeus_base.specs.Tables.{nth, put}
use Rattle.zeus_base.specs.Values.{same_value, is_num}
use Rattle.zeus_txn.specs.Map.{declared_content, start_map, written_map}
use Rattle.zeus_txn.specs.Ops.{object_of, stores, mentions, mentioned, named_after, named, is_write, written_after, written}
use Rattle.zeus_txn.specs.Run.{added, reaches, tested, effect, given, latest, rewritten, stored, run_from, run}
use Rattle.zeus_packet.specs.Place.{same_place, same_want, same_proposal, source, with_optional, arbiters, changed_place, new_place}
use Rattle.zeus_model.specs.Act.{in_turn, to_each}
use Rattle.zeus_model.specs.Book.{reply_or, point_once, ack_once, is_entry, tx_from, pass_tx, pass_numbers, book_passes, inserted, in_stream_order, book_tried}
use Rattle.zeus_model.specs.Commit.{validated, applied, each_write, writes_of, followers_of, passes_at, advance_own_by, advance_own, advance_kept_by, advance_kept, raise, stored_rinv, on_rinv, is_within, on_own_rack, on_kept_rack, on_rack, on_rval, streams_of, streams_outside, none_stored, report_recovered, finish}
use Rattle.zeus_model.specs.Local.{begin_free, begin, least_from, driver, ask, not_owned, not_copied, unready, hindrance_at, hindrance, read_missing, read_row, full_cause, owner_cause, held_elsewhere, holder_cause, worn_cause, write_cause, new_writes, replicas_of, rewritten_copy, commit_entry, commit, write_row, try_current, try_slot}
use Rattle.zeus_model.specs.Membership.{dropped, install, stop, letters_of, apart, repeat_report, repeat_entries, repeat_own, repeat_kept, repeat_requests, own_acknowledgement, repeat_proposal, repeat_proposals, repeat_done, greatest, is_greatest, names_it, is_wanted, leaves, repeat_leave, repeats, tick}
use Rattle.zeus_model.specs.Ownership.{proposal_above, gather_above, settle, is_node, content_of, own_content, keeps, keeper, missing_cause, held_cause, not_valid, state_refused, state_cause, kept_by, kept_cause, unready_cause, source_cause, proposed_cause, want_cause, exceeds, leave_cause, drive_cause, request_cause, answer_request, on_oreq, takes_over, rebased, greater_cause, is_held, accept_cause, hold_cause, refusal, advice, collector, hold_or_refuse, oinv_on_base, on_oinv, is_decidable, brought, bring, decide_on, decide_gathered, gather_for, greater_gather, is_noted, take_ack, gather_or_older, collect_cause, collect_or_refuse, oack_on_base, on_oack, on_oval}
use Rattle.zeus_model.specs.Readers.{owner, live_among, no_nodes, is_lost, state_of, waits_in_vain, is_closed, each_closed}
use Rattle.zeus_model.specs.Receive.{on_recovered, needs_open, row, rejection, receive_or_not, receive}
use Rattle.zeus_model.specs.ReportText.{point_lines, acked_lines, packet_lines, steps_text, points_text, tx_state_lines, copy_line, copy_lines, holders_text, objects_text, report as report_of_ReportText}
use Rattle.zeus_model.specs.ReportWords.{more_nodes_text, nodes_text, optional_node, state_text, cause_text, values_text, outcome_text, begin_text, tried_text, received_text, ticked_text, stopped_text, made_text, installed_text, answer_text, writes_text, want_text, content_text, body_text, tx_state_text}
use Rattle.zeus_model.specs.Serial.{serial_replies, serial_map}
use Rattle.zeus_model.specs.Sound.{newer, newest, latest_entry, history_txs, replies_of, times}
use Rattle.zeus_model.specs.Spelling.{spaced, words_text, lines_text, value_text, op_words, more_op_words, tx_op_words, after_words, tx_words, object_words, step_words, degree_lines, head_lines, object_lines, script_lines, spelling}
use Rattle.zeus_model.specs.State.{owns, is_open, pending_names, holder, value_of, version_of}
use Rattle.zeus_model.specs.Tables.{numbers_from, or_else, where_true, first_of, front}
use Rattle.zeus_model.specs.World.{start_entry, start_copy, start_gather, start_node, start, all_posted, packets, waits_for, begin_refused, book_begun, begin_or_not, step_begin, tried_at, nth_letter, received_at, deliver_or_not, ticked_at, stopped_at, installed_at, last_view, is_empty, view_refused, view_or_not, step_install, happens, run as run_of_World, events}

-- numbers, sets of nodes, orders and tables
unfoldable pub values : ℕ
unfolding digits has with_node without meet join is_subset least is_below same_stamp is_before same_stream nth put
    same_value is_num numbers_from or_else where_true first_of front
values = 0

-- what a transaction names, runs and writes
unfoldable pub transactions : ℕ
unfolding declared_content start_map written_map object_of stores mentions mentioned named_after named is_write
    written_after written added reaches tested effect given latest rewritten stored run_from run
transactions = 0

-- placements and proposals
unfoldable pub placements : ℕ
unfolding same_place same_want same_proposal source with_optional arbiters changed_place new_place
placements = 0

-- a node by itself: begins, reads, commits
unfoldable pub local_rules : ℕ
unfolding owns is_open pending_names holder value_of version_of begin_free begin least_from driver ask not_owned
    not_copied unready hindrance_at hindrance read_missing read_row full_cause owner_cause held_elsewhere holder_cause
    worn_cause write_cause new_writes replicas_of rewritten_copy commit_entry commit write_row try_current try_slot
local_rules = 0

-- reliable commit
unfoldable pub commit_rules : ℕ
unfolding in_turn to_each validated applied each_write writes_of followers_of passes_at advance_own_by advance_own
    advance_kept_by advance_kept raise stored_rinv on_rinv is_within on_own_rack on_kept_rack on_rack on_rval
    streams_of streams_outside none_stored report_recovered finish
commit_rules = 0

-- changes of owner and of readers
unfoldable pub ownership_rules : ℕ
unfolding proposal_above gather_above settle is_node content_of own_content keeps keeper missing_cause held_cause
    not_valid state_refused state_cause kept_by kept_cause unready_cause source_cause proposed_cause want_cause
    exceeds leave_cause drive_cause request_cause answer_request on_oreq takes_over rebased greater_cause is_held
    accept_cause hold_cause refusal advice collector hold_or_refuse oinv_on_base on_oinv is_decidable brought bring
    decide_on decide_gathered gather_for greater_gather is_noted take_ack gather_or_older collect_cause
    collect_or_refuse oack_on_base on_oack on_oval
ownership_rules = 0

-- views, installs and ticks
unfoldable pub membership_rules : ℕ
unfolding dropped install stop letters_of apart repeat_report repeat_entries repeat_own repeat_kept repeat_requests
    own_acknowledgement repeat_proposal repeat_proposals repeat_done greatest is_greatest names_it is_wanted leaves
    repeat_leave repeats tick
membership_rules = 0

-- which letters a node takes
unfoldable pub receiving : ℕ
unfolding on_recovered needs_open row rejection receive_or_not receive
receiving = 0

-- the steps of a world and its readers
unfoldable pub worlds : ℕ
unfolding start_entry start_copy start_gather start_node start all_posted packets waits_for begin_refused book_begun
    begin_or_not step_begin tried_at nth_letter received_at deliver_or_not ticked_at stopped_at installed_at last_view
    is_empty view_refused view_or_not step_install happens run_of_World events owner live_among no_nodes is_lost
    state_of waits_in_vain is_closed each_closed
worlds = 0

-- the book, the serial history and soundness
unfoldable pub histories : ℕ
unfolding reply_or point_once ack_once is_entry tx_from pass_tx pass_numbers book_passes inserted in_stream_order
    book_tried serial_replies serial_map newer newest latest_entry history_txs replies_of times
histories = 0

-- the texts of scripts and reports
unfoldable pub texts : ℕ
unfolding point_lines acked_lines packet_lines steps_text points_text tx_state_lines copy_line copy_lines holders_text
    objects_text report_of_ReportText more_nodes_text nodes_text optional_node state_text cause_text values_text
    outcome_text begin_text tried_text received_text ticked_text stopped_text made_text installed_text answer_text
    writes_text want_text content_text body_text tx_state_text spaced words_text lines_text value_text op_words
    more_op_words tx_op_words after_words tx_words object_words step_words degree_lines head_lines object_lines
    script_lines spelling
texts = 0

-- the whole machine
unfoldable pub machine : ℕ
unfolding values transactions placements local_rules commit_rules ownership_rules membership_rules receiving worlds histories texts
machine = 0
