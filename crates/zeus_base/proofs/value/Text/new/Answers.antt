use Rattle.std.proofs.Common.{◌≡◌, rules}
use Rattle.zeus_base.specs.Texts.{IsText, IsPadded-copied}
use Rattle.zeus_base.proofs.value.Text.new.Goals as goal

pub invariant_of-result : goal.invariant_of-result
invariant_of-result c =
    let text : IsText c.args.bytes.now = search rules in
    let copied : c.copy_from_slice.new.self ≡ c.args.bytes.now = search rules in
    IsPadded-copied c.args.bytes.now c.copy_from_slice.new.self text copied
