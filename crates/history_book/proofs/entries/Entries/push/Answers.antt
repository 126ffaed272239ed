use Rattle.std.proofs.Common.{refl, ap, ◌∙◌, sym, subst, ◌<◌, List, length, ◌++◌, ◌∷◌, []}
use Rattle.zeus_base.specs.TableLaws.{nth_read, nth-set_same, put-set}
use Rattle.zeus_model.specs.Tables.{nth, put}
use Rattle.history_book.specs.Ids.{IdsState, no_ids}
use Rattle.history_book.proofs.entries.Entries.push.Goals as goal

pub push-requires-clause-slot : goal.push-requires-clause-slot
push-requires-clause-slot c =
    let node = rw (← c.self.view_is) at c.requires.node in
    let slot = rw (← c.self.view_is) at c.requires.slot in
    let row = rw c.place.ensures at c.index_mut-node.ensures.value in
    subst (λ (r : List IdsState). c.args.stream.now.slot < length r) (nth_read [] c.self.inside.nodes.items c.args.stream.now.node _ node row) slot

pub push-requires-clause-room : goal.push-requires-clause-room
push-requires-clause-room c =
    let node = rw (← c.self.view_is) at c.requires.node in
    let room = rw (← c.self.view_is) at c.requires.room in
    let row = rw c.place.ensures at c.index_mut-node.ensures.value in
    subst (λ (r : List IdsState). 0 < (nth no_ids r c.args.stream.now.slot).room) (nth_read [] c.self.inside.nodes.items c.args.stream.now.node _ node row) room

pub returns-clause-list : goal.returns-clause-list
returns-clause-list c =
    let node = rw (← c.self.view_is) at c.requires.node in
    let row = rw c.place.ensures at c.index_mut-node.ensures.value in
    rw (← c.self.view_is, c.place.ensures, nth-set_same [] c.self.inside.nodes.items c.args.stream.now.node c.push.new.self node, nth_read [] c.self.inside.nodes.items c.args.stream.now.node _ node row, ← c.push.ensures.list)
    (sym (put-set [] c.self.inside.nodes.items c.args.stream.now.node c.push.new.self node))

pub returns-clause-ids : goal.returns-clause-ids
returns-clause-ids c =
    let node = rw (← c.self.view_is) at c.requires.node in
    let row = rw c.place.ensures at c.index_mut-node.ensures.value in
    rw (← c.self.view_is, c.place.ensures, nth-set_same [] c.self.inside.nodes.items c.args.stream.now.node c.push.new.self node)
    (c.push.ensures.ids ∙ ap (λ (r : List IdsState). (nth no_ids r c.args.stream.now.slot).ids ++ c.args.id ∷ []) (sym (nth_read [] c.self.inside.nodes.items c.args.stream.now.node _ node row)))

pub returns-clause-room : goal.returns-clause-room
returns-clause-room c =
    let node = rw (← c.self.view_is) at c.requires.node in
    let row = rw c.place.ensures at c.index_mut-node.ensures.value in
    rw (← c.self.view_is, c.place.ensures, nth-set_same [] c.self.inside.nodes.items c.args.stream.now.node c.push.new.self node)
    (c.push.ensures.room ∙ ap (λ (r : List IdsState). (nth no_ids r c.args.stream.now.slot).room) (sym (nth_read [] c.self.inside.nodes.items c.args.stream.now.node _ node row)))
