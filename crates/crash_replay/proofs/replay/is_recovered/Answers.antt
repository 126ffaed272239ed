use Rattle.std.proofs.Common.{◌∙◌, is_none, ap}
use Rattle.crash_replay.proofs.Searching.{is_none-from, none_stored-outside}
use Rattle.crash_replay.proofs.replay.is_recovered.Goals as goal

pub returns : goal.returns
returns c = λ n is.
    is_none-from _ _ c.is_none.ensures ∙ ap is_none (c.next_replay.ensures n is) ∙ none_stored-outside n
