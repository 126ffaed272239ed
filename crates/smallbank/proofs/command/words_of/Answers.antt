use Rattle.std.proofs.Common.{◌≡◌, ◌<◌, length, refl}
use Rattle.std.specs.Prelude.{IsSome, ◌↔◌}
use Rattle.std.specs.Vec.Iter.{into_iter_items, into_iter_len}
use Rattle.std.proofs.lemmas.Iterator.{items_from_collect}
use Rattle.std.proofs.lemmas.Iterator.Adapters.{YieldsList-from_vec}
use Rattle.smallbank.proofs.Words.{drop-next}
use Rattle.smallbank.proofs.command.words_of.Goals as goal

pub returns : goal.returns
returns c =
    let before : into_iter_len c.args.args ≡ length (into_iter_items c.args.args) = search in
    let after : into_iter_len c.next-own_name.new.self ≡ length (into_iter_items c.next-own_name.new.self) = search in
    let left = into_iter_items c.next-own_name.new.self in
    let some : IsSome c.next-own_name.result ↔ (0 < length (into_iter_items c.args.args)) = rw (← before) c.next-own_name.ensures.variant in
    let same = drop-next c.next-own_name.result left (into_iter_items c.args.args) c.next-own_name.ensures.items some in
    rw (← same) (items_from_collect c.collect.result c.collect.ensures.ran (YieldsList-from_vec left refl after))
