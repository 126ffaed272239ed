use Rattle.std.proofs.Common.{◌≡◌, drop}
use Rattle.script_lang.specs.Numbers.{digits_from}
use Rattle.script_lang.proofs.words.digits.Given as goal

abbrev pub invariant-loop-byte : goal.invariant-loop-byte
invariant-loop-byte l = digits_from l.number (drop l.byte-index l.word) ≡ digits_from 0 l.word
