-- What is written and the lines of the objects that are left stay the lines of all.
use Rattle.std.proofs.Common.{◌≡◌, ◌++◌, drop, length}
use Rattle.zeus_model.specs.Spelling.{lines_text, object_lines}
use Rattle.script_lang.proofs.print.objects.write_objects.Given as goal

abbrev pub invariant-loop-name : goal.invariant-loop-name
invariant-loop-name l =
    l.out.items ++ lines_text (object_lines (drop (length l.yielded) l.names) (drop (length l.yielded) l.objects))
    ≡ l.fn.out.items ++ lines_text (object_lines l.names l.objects)
