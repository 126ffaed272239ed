use Rattle.std.proofs.Common.{◌≡◌, rules}
use Rattle.zeus_model.specs.Names.{IsName, IsPadded-copied}
use Rattle.zeus_model.proofs.script.Name.new.Goals as goal

pub invariant_of-result : goal.invariant_of-result
invariant_of-result c =
    let name : IsName c.args.bytes.now = search rules in
    let copied : c.copy_from_slice.new.self ≡ c.args.bytes.now = search rules in
    IsPadded-copied c.args.bytes.now c.copy_from_slice.new.self name copied
