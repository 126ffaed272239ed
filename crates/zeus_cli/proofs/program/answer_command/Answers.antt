use Rattle.std.proofs.Common.{◌≡◌, ◌∙◌, None, arith, sym, ap, inl, inr, refl}
use Rattle.zeus_io.specs.Status.{exit_status}
use Rattle.zeus_io.specs.declared.status.Status.TheVariants.{ReadFault, Usage, WriteFault, OutOfMemory}
use Rattle.zeus_cli.specs.Ends.{usage_line}
use Rattle.zeus_cli.proofs.Ending.{asks_no_error, complete_by_args, ends_by_args, usage-plain, written_ends, written_fault, written_plain}
use Rattle.zeus_cli.proofs.Numbers.{is_out_of_memory, is_read_fault, is_write_fault}
use Rattle.zeus_cli.proofs.program.answer_command.Goals as goal
use Rattle.zeus_cli.proofs.program.answer_command.Goals.{in-Ok+in-Ok-words_of, in-Ok+in-Err-words_of, in-Err+in-InvalidData, in-Err+in_default}

pub returns-clause-whole : goal.returns-clause-whole
returns-clause-whole g c =
    elim c.match-args.branch [
      | in-Ok+in-Ok-words_of w ↦
          inl (rw (w.source-is, w.sink-is) (ends_by_args c.args.args _ _ _ _ _ _ _ _ w.in-Ok.is w.in-Ok-words_of.ensures w.zeus_top.ensures.whole (c.number.ensures ∙ ap exit_status w.status-is)))
      | in-Ok+in-Err-words_of w ↦
          inr (rw (w.source-is, w.sink-is) record { number_is = c.number.ensures ∙ ap exit_status w.status-is; unread = refl; unwritten = refl })
      | in-Err+in-InvalidData w ↦
          inl (rw (w.source-is, w.sink-is, w.in-Err.is)
          record {
            command = None;
            asked = refl;
            status = c.match-args.status;
            number_is = c.number.ensures;
            ends = rw w.status-is (written_ends None _ _ _ _ _ _ Usage _ usage_line (refl, refl) w.write.ensures);
          })
      | in-Err+in_default w ↦
          inr (rw (w.source-is, w.sink-is) record { number_is = c.number.ensures ∙ ap exit_status w.status-is; unread = refl; unwritten = refl })
    ]

pub returns-clause-write_fault : goal.returns-clause-write_fault
returns-clause-write_fault g c = λ e.
    let failed : c.match-args.status ≡ WriteFault = is_write_fault c.match-args.status (sym c.number.ensures ∙ e) in
    elim c.match-args.branch [
      | in-Ok+in-Ok-words_of w ↦ rw w.sink-is (w.zeus_top.ensures.write_fault (sym w.status-is ∙ failed))
      | in-Ok+in-Err-words_of w ↦ absurd (cc (w.status-is, failed))
      | in-Err+in-InvalidData w ↦ rw w.sink-is (written_fault _ _ _ _ Usage _ usage_line usage-plain w.write.ensures (sym w.status-is ∙ failed))
      | in-Err+in_default w ↦ absurd (cc (w.status-is, failed))
    ]

pub returns-clause-read_fault : goal.returns-clause-read_fault
returns-clause-read_fault g c = λ e.
    let failed : c.match-args.status ≡ ReadFault = is_read_fault c.match-args.status (sym c.number.ensures ∙ e) in
    elim c.match-args.branch [
      | in-Ok+in-Ok-words_of w ↦ rw (w.source-is, w.sink-is) (w.zeus_top.ensures.read_fault (sym w.status-is ∙ failed))
      | in-Ok+in-Err-words_of w ↦ absurd (cc (w.status-is, failed))
      | in-Err+in-InvalidData w ↦ absurd ((written_plain _ _ _ _ Usage _ usage_line usage-plain w.write.ensures).0 (sym w.status-is ∙ failed))
      | in-Err+in_default w ↦ absurd (cc (w.status-is, failed))
    ]

pub returns-clause-memory : goal.returns-clause-memory
returns-clause-memory g c = λ e.
    let starved : c.match-args.status ≡ OutOfMemory = is_out_of_memory c.match-args.status (sym c.number.ensures ∙ e) in
    elim c.match-args.branch [
      | in-Ok+in-Ok-words_of w ↦ rw w.sink-is (w.zeus_top.ensures.memory (sym w.status-is ∙ starved))
      | in-Ok+in-Err-words_of w ↦ w.sink-is
      | in-Err+in-InvalidData w ↦ absurd ((written_plain _ _ _ _ Usage _ usage_line usage-plain w.write.ensures).1 (sym w.status-is ∙ starved))
      | in-Err+in_default w ↦ w.sink-is
    ]

pub returns-clause-write_told : goal.returns-clause-write_told
returns-clause-write_told g c = λ rose.
    elim c.match-args.branch [
      | in-Ok+in-Ok-words_of w ↦ c.number.ensures ∙ ap exit_status (w.status-is ∙ w.zeus_top.ensures.write_told (rw w.sink-is at rose))
      | in-Ok+in-Err-words_of w ↦ absurd (omega (arith, rw w.sink-is at rose))
      | in-Err+in-InvalidData w ↦
          elim w.write.ensures [ inl u ↦ absurd (omega (arith, u.1, rw w.sink-is at rose)) | inr u ↦ c.number.ensures ∙ ap exit_status (w.status-is ∙ u.0) ]
      | in-Err+in_default w ↦ absurd (omega (arith, rw w.sink-is at rose))
    ]

pub returns-clause-sound : goal.returns-clause-sound
returns-clause-sound g c = λ s taken k.
    let fits = taken.taken.holds.script.fits in
    (c.every_run_keeps_its_promise.ensures s.config s.txs s.steps fits.config fits.txs fits.steps k).sound

pub returns-clause-promise : goal.returns-clause-promise
returns-clause-promise g c = λ s taken k.
    let fits = taken.taken.holds.script.fits in
    c.every_run_keeps_its_promise.ensures s.config s.txs s.steps fits.config fits.txs fits.steps k

pub returns-clause-complete : goal.returns-clause-complete
returns-clause-complete g c = λ command asked has quiet_read quiet_write.
    elim c.match-args.branch [
      | in-Ok+in-Ok-words_of w ↦
          record {
            status = c.match-args.status;
            number_is = c.number.ensures;
            complete = rw w.status-is (complete_by_args c.args.args _ _ command w.in-Ok.is w.in-Ok-words_of.ensures asked (λ asks. w.zeus_top.ensures.complete command asks has (rw w.source-is at quiet_read) (rw w.sink-is at quiet_write)));
          }
      | in-Ok+in-Err-words_of w ↦ record { status = c.match-args.status; number_is = c.number.ensures; complete = inr w.status-is }
      | in-Err+in-InvalidData w ↦ absurd (asks_no_error c.args.args _ command w.in-Err.is asked)
      | in-Err+in_default w ↦ record { status = c.match-args.status; number_is = c.number.ensures; complete = inr w.status-is }
    ]
