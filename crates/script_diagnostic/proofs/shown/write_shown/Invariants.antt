-- What is written and what is shown of the bytes that are left stay what is shown of all.
use Rattle.std.proofs.Common.{◌≡◌, ◌++◌, drop}
use Rattle.script_diagnostic.specs.Text.{shown}
use Rattle.script_diagnostic.proofs.shown.write_shown.Given as goal

abbrev pub invariant-loop-byte : goal.invariant-loop-byte
invariant-loop-byte l = l.out.items ++ shown (drop l.byte-index l.bytes) ≡ l.fn.out.items ++ shown l.bytes
