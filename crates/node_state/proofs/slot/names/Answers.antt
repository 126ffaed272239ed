use Rattle.std.proofs.Common.{◌≡◌, ◌∙◌}
use Rattle.std.specs.Prelude.{◌==◌}
use Rattle.std.specs.List.{list_any}
use Rattle.zeus_txn.specs.OpLaws.{contains-mentions}
use Rattle.node_state.proofs.slot.names.Goals as goal

pub returns : goal.returns
returns c =
    let all = c.as_slice-2.result.now in
    let any : c.contains.result ≡ list_any (λ y. y == c.args.obj) all = c.contains.ensures.value in
    let listed = c.as_slice-2.ensures.list in
    rw (← c.named.ensures, ← listed) (any ∙ contains-mentions c.args.obj all)
