use Rattle.std.proofs.Common.{◌≡◌, ◌∙◌, None, Some, arith, inl, inr, refl, ap}
use Rattle.zeus_io.specs.declared.status.Status.TheVariants.{Usage}
use Rattle.zeus_cli.specs.Command.{Reads, command_words}
use Rattle.zeus_cli.specs.declared.command.Command.{Command}
use Rattle.zeus_cli.specs.Ends.{status_of_halt, usage_line}
use Rattle.zeus_cli.specs.declared.input.Halt.TheVariants.{ReadFault}
use Rattle.zeus_cli.proofs.Ending.{answer-plain, asked_as, halt_ends, halt_read, halt_starved, halt_unwritten, input_answered, shown_ends, usage-plain, written_complete, written_ends, written_fault, written_plain}
use Rattle.zeus_cli.proofs.top.zeus_top.Goals as goal

-- ---- other words

pub returns-in_default-clause-whole : goal.returns-in_default-clause-whole
returns-in_default-clause-whole g c = record {
  command = None;
  asked = asked_as _ _ _ None c.deref.ensures.value c.in_default.is c.command_of.ensures;
  ends = written_ends None _ _ _ _ _ _ Usage _ usage_line (refl, refl) c.write.ensures;
}

pub returns-in_default-clause-sound : goal.returns-in_default-clause-sound
returns-in_default-clause-sound g c = λ s taken k.
    let fits = taken.taken.holds.script.fits in
    (c.every_run_keeps_its_promise.ensures s.config s.txs s.steps fits.config fits.txs fits.steps k).sound

pub returns-in_default-clause-promise : goal.returns-in_default-clause-promise
returns-in_default-clause-promise g c = λ s taken k.
    let fits = taken.taken.holds.script.fits in
    c.every_run_keeps_its_promise.ensures s.config s.txs s.steps fits.config fits.txs fits.steps k

pub returns-in_default-clause-read_fault : goal.returns-in_default-clause-read_fault
returns-in_default-clause-read_fault g c = λ e. absurd ((written_plain _ _ _ _ Usage _ usage_line usage-plain c.write.ensures).0 e)

pub returns-in_default-clause-write_fault : goal.returns-in_default-clause-write_fault
returns-in_default-clause-write_fault g c = λ e. written_fault _ _ _ _ Usage _ usage_line usage-plain c.write.ensures e

pub returns-in_default-clause-write_told : goal.returns-in_default-clause-write_told
returns-in_default-clause-write_told g c = λ rose. elim c.write.ensures [ inl w ↦ absurd (omega (arith, w.1, rose)) | inr w ↦ w.0 ]

pub returns-in_default-clause-memory : goal.returns-in_default-clause-memory
returns-in_default-clause-memory g c = λ e. absurd ((written_plain _ _ _ _ Usage _ usage_line usage-plain c.write.ensures).1 e)

pub returns-in_default-clause-complete : goal.returns-in_default-clause-complete
returns-in_default-clause-complete g c = λ command asks.
    let asked = asked_as _ c.args.words.now.items _ None c.deref.ensures.value c.in_default.is c.command_of.ensures in
    absurd (asked command asks.0 asks.1)

-- ---- a command

pub answer_to-requires : goal.answer_to-requires
answer_to-requires g c = (asked_as _ c.args.words.now.items _ (Some c.in-Some.command) c.deref.ensures.value c.in-Some.is c.command_of.ensures).0

pub returns-in-Ok-clause-whole : goal.returns-in-Ok-clause-whole
returns-in-Ok-clause-whole g c = record {
  command = Some c.in-Some.command;
  asked = asked_as _ _ _ (Some c.in-Some.command) c.deref.ensures.value c.in-Some.is c.command_of.ensures;
  ends = shown_ends (Some c.in-Some.command) _ _ _ _ _ _ c.in-Ok.answer.status _ c.as_slice.result.now c.in-Ok.answer.text.items c.as_slice.ensures.value c.in-Ok.ensures.answer c.write-in-Ok.ensures;
}

pub returns-in-Ok-clause-sound : goal.returns-in-Ok-clause-sound
returns-in-Ok-clause-sound g c = λ s taken k.
    let fits = taken.taken.holds.script.fits in
    (c.every_run_keeps_its_promise.ensures s.config s.txs s.steps fits.config fits.txs fits.steps k).sound

pub returns-in-Ok-clause-promise : goal.returns-in-Ok-clause-promise
returns-in-Ok-clause-promise g c = λ s taken k.
    let fits = taken.taken.holds.script.fits in
    c.every_run_keeps_its_promise.ensures s.config s.txs s.steps fits.config fits.txs fits.steps k

pub returns-in-Ok-clause-read_fault : goal.returns-in-Ok-clause-read_fault
returns-in-Ok-clause-read_fault g c = λ e.
    let plain = answer-plain (Some c.in-Some.command) _ _ c.in-Ok.answer.status _ c.in-Ok.ensures.answer in
    absurd ((written_plain _ _ _ _ c.in-Ok.answer.status _ _ plain c.write-in-Ok.ensures).0 e)

pub returns-in-Ok-clause-write_fault : goal.returns-in-Ok-clause-write_fault
returns-in-Ok-clause-write_fault g c = λ e.
    let plain = answer-plain (Some c.in-Some.command) _ _ c.in-Ok.answer.status _ c.in-Ok.ensures.answer in
    written_fault _ _ _ _ c.in-Ok.answer.status _ _ plain c.write-in-Ok.ensures e

pub returns-in-Ok-clause-write_told : goal.returns-in-Ok-clause-write_told
returns-in-Ok-clause-write_told g c = λ rose. elim c.write-in-Ok.ensures [ inl w ↦ absurd (omega (arith, w.1, rose)) | inr w ↦ w.0 ]

pub returns-in-Ok-clause-memory : goal.returns-in-Ok-clause-memory
returns-in-Ok-clause-memory g c = λ e.
    let plain = answer-plain (Some c.in-Some.command) _ _ c.in-Ok.answer.status _ c.in-Ok.ensures.answer in
    absurd ((written_plain _ _ _ _ c.in-Ok.answer.status _ _ plain c.write-in-Ok.ensures).1 e)

pub returns-in-Ok-clause-no_input : goal.returns-in-Ok-clause-no_input
returns-in-Ok-clause-no_input g c = λ none.
    let asked = asked_as _ c.args.words.now.items _ (Some c.in-Some.command) c.deref.ensures.value c.in-Some.is c.command_of.ensures in
    c.answer_to.ensures.no_input (λ reads. none record { command = c.in-Some.command; reads = reads; asked = asked.1 })

pub returns-in-Ok-clause-complete : goal.returns-in-Ok-clause-complete
returns-in-Ok-clause-complete g c = λ command asks has quiet_read quiet_write.
    let asked = asked_as _ c.args.words.now.items _ (Some c.in-Some.command) c.deref.ensures.value c.in-Some.is c.command_of.ensures in
    let answered = input_answered command c.in-Some.command _ _ _ c.in-Ok.answer.status _ asked.1 asks.1 has c.in-Ok.ensures.answer in
    written_complete command _ _ _ _ c.in-Ok.answer.status _ _ answered quiet_write c.write-in-Ok.ensures

-- ---- no answer

pub returns-in-Err-clause-whole : goal.returns-in-Err-clause-whole
returns-in-Err-clause-whole g c = record {
  command = Some c.in-Some.command;
  asked = asked_as _ _ _ (Some c.in-Some.command) c.deref.ensures.value c.in-Some.is c.command_of.ensures;
  ends = halt_ends c.in-Some.command _ _ _ _ c.in-Err.halt _ c.in-Err.ensures.halt c.status.ensures refl;
}

pub returns-in-Err-clause-sound : goal.returns-in-Err-clause-sound
returns-in-Err-clause-sound g c = λ s taken k.
    let fits = taken.taken.holds.script.fits in
    (c.every_run_keeps_its_promise.ensures s.config s.txs s.steps fits.config fits.txs fits.steps k).sound

pub returns-in-Err-clause-promise : goal.returns-in-Err-clause-promise
returns-in-Err-clause-promise g c = λ s taken k.
    let fits = taken.taken.holds.script.fits in
    c.every_run_keeps_its_promise.ensures s.config s.txs s.steps fits.config fits.txs fits.steps k

pub returns-in-Err-clause-read_fault : goal.returns-in-Err-clause-read_fault
returns-in-Err-clause-read_fault g c = λ e. (c.in-Err.ensures.fault (cc (halt_read c.in-Err.halt _ c.status.ensures e)), refl)

pub returns-in-Err-clause-read_told : goal.returns-in-Err-clause-read_told
returns-in-Err-clause-read_told g c = λ rose.
    let failed : c.in-Err.halt ≡ ReadFault = cc (c.in-Err.ensures.told rose) in
    c.status.ensures ∙ ap status_of_halt failed

pub returns-in-Err-clause-write_fault : goal.returns-in-Err-clause-write_fault
returns-in-Err-clause-write_fault g c = λ e. absurd (halt_unwritten c.in-Err.halt _ c.status.ensures e)

pub returns-in-Err-clause-no_input : goal.returns-in-Err-clause-no_input
returns-in-Err-clause-no_input g c = λ none.
    let asked = asked_as _ c.args.words.now.items _ (Some c.in-Some.command) c.deref.ensures.value c.in-Some.is c.command_of.ensures in
    c.answer_to.ensures.no_input (λ reads. none record { command = c.in-Some.command; reads = reads; asked = asked.1 })

pub returns-in-Err-clause-complete : goal.returns-in-Err-clause-complete
returns-in-Err-clause-complete g c = λ command asks has quiet_read quiet_write.
    inr (halt_starved c.in-Err.halt _ c.status.ensures (λ e. quiet_read (c.in-Err.ensures.fault (cc e))))
