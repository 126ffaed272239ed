use Rattle.std.proofs.Common.{◌≡◌, ◌==◌, ◌∙◌}
use Rattle.std.specs.List.{list_any}
use Rattle.zeus_txn.specs.OpLaws.{contains-mentions}
use Rattle.script_lang.proofs.builder.is_mentioned.Goals as goal

pub returns : goal.returns
returns c =
    let any : c.contains.result ≡ list_any (λ y. y == c.args.object) c.args.seen.now = c.contains.ensures.value in
    any ∙ contains-mentions c.args.object c.args.seen.now
