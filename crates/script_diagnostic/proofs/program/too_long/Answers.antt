use Rattle.std.proofs.Common.{arith, sym, ap, ◌∙◌}
use Rattle.script_diagnostic.proofs.Sizes.{size_explained}
use Rattle.script_diagnostic.proofs.program.too_long.Goals as goal

pub returns : goal.returns
returns c = λ bytes longer. rw (size_explained bytes longer) c.size_line.ensures
