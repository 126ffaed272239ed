use Rattle.std.proofs.Common.{◌≡◌, ◌++◌, [], map, sym, ◌∙◌}
use Rattle.zeus_model.specs.Spelling.{lines_text, object_lines, tx_words, step_words}
use Rattle.script_lang.proofs.Printing.{script_parts, written_behind}
use Rattle.script_lang.proofs.print.print_script.Goals as goal

pub returns-clause-text : goal.returns-clause-text
returns-clause-text c =
    let s = c.args.script.now in
    let objects : c.write_objects.new.out.items ≡ c.write_head.new.out.items ++ lines_text (object_lines s.names s.config.objects) = cc (c.as_slice-names.ensures, c.as_slice.ensures, c.in_ok-write_objects.ensures) in
    let txs : c.write_txs.new.out.items ≡ c.write_objects.new.out.items ++ lines_text (map (tx_words s.names) s.txs) = cc (c.as_slice-names.ensures, c.as_slice-2.ensures, c.in_ok-write_txs.ensures) in
    let steps : c.write_steps.new.out.items ≡ c.append.new.out.items ++ lines_text (map step_words s.steps) = cc (c.as_slice-3.ensures, c.in_ok-write_steps.ensures) in
    let with_head = written_behind [] _ _ _ c.new-out.ensures.items c.in_ok-write_head.ensures in
    let with_objects = written_behind _ _ _ _ with_head objects in
    let with_txs = written_behind _ _ _ _ with_objects txs in
    let with_run = written_behind _ _ _ _ with_txs c.in_ok-append.ensures in
    let with_steps = written_behind _ _ _ _ with_run steps in
    written_behind _ _ _ _ with_steps c.in_ok-append-2.ensures ∙ sym (script_parts s)

pub returns-clause-read : goal.returns-clause-read
returns-clause-read c = λ bytes h. returns-clause-text c ∙ sym h.spelled
