use Rattle.std.proofs.Common.{refl, ap, ◌∙◌, sym, subst, ◌<◌, ◌+◌, ◌≡◌, ◌++◌, ◌∷◌, []}
use Rattle.zeus_base.specs.TableLaws.{nth_read, nth-set_same, put-set}
use Rattle.history_book.specs.Ids.{IdsState, no_ids}
use Rattle.history_book.proofs.entries.NodeEntries.push.Goals as goal

pub push-requires : goal.push-requires
push-requires c =
    let slot = rw (← c.self.view_is) at c.requires.slot in
    let room = rw (← c.self.view_is) at c.requires.room in
    let list = rw c.place.ensures at c.index_mut-list.ensures.value in
    subst (λ (l : IdsState). 0 < l.room) (nth_read no_ids c.self.inside.slots.items c.args.slot _ slot list) room

pub returns-clause-list : goal.returns-clause-list
returns-clause-list c =
    let slot = rw (← c.self.view_is) at c.requires.slot in
    rw (← c.self.view_is, c.place.ensures, nth-set_same no_ids c.self.inside.slots.items c.args.slot c.push.new.self slot)
    (sym (put-set no_ids c.self.inside.slots.items c.args.slot c.push.new.self slot))

pub returns-clause-ids : goal.returns-clause-ids
returns-clause-ids c =
    let slot = rw (← c.self.view_is) at c.requires.slot in
    let list = rw c.place.ensures at c.index_mut-list.ensures.value in
    rw (← c.self.view_is, c.place.ensures, nth-set_same no_ids c.self.inside.slots.items c.args.slot c.push.new.self slot)
    (c.push.ensures.ids ∙ ap (λ (l : IdsState). l.ids ++ c.args.id ∷ []) (sym (nth_read no_ids c.self.inside.slots.items c.args.slot _ slot list)))

pub returns-clause-room : goal.returns-clause-room
returns-clause-room c =
    let slot = rw (← c.self.view_is) at c.requires.slot in
    let list = rw c.place.ensures at c.index_mut-list.ensures.value in
    rw (← c.self.view_is, c.place.ensures, nth-set_same no_ids c.self.inside.slots.items c.args.slot c.push.new.self slot)
    (c.push.ensures.room ∙ ap (λ (l : IdsState). l.room) (sym (nth_read no_ids c.self.inside.slots.items c.args.slot _ slot list)))
