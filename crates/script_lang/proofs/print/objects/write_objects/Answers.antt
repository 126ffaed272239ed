use Rattle.std.proofs.Common.{[], ◌∷◌, ◌++◌, List, ℕ, length, length-append, ap, sym, ◌∙◌}
use Rattle.std.proofs.lemmas.Slice.Zip.{zip_turn, zip_end}
use Rattle.script_lang.proofs.Printing.{next_object, next_written, objects_done}
use Rattle.script_lang.proofs.print.objects.write_objects.Goals as goal

pub loop-name-preserved : goal.loop-name-preserved
loop-name-preserved c =
    let start = c.into_iter-name-iterator.ensures.into_iter_gives in
    let ns = c.args.names.now in
    let os = c.args.objects.now in
    let seen = c.loop-name.yielded in
    let here = zip_turn ns os seen c.into_iter-name-iterator.result c.loop-name.name-iterator c.next.new.self c.next.result (cc (start, c.zip-name-items.ensures.first, c.iter.ensures.rest)) (cc (start, c.zip-name-items.ensures.second.0)) c.loop-name.yielded_by (c.in-Some.name, c.in-Some.object) c.in-Some.is c.next.ensures.steps in
    let next = next_object ns os (length seen) c.in-Some.name.now c.in-Some.object.now here.0 here.1 (here.2 _) (here.3 _) in
    let kept = ap (λ (t : List ℕ). c.loop-name.out.items ++ t) (sym next) ∙ c.loop-name.invariant in
    let count = length-append seen ((c.in-Some.name, c.in-Some.object) ∷ []) in
    rw count (next_written c.loop-name.out.items _ _ _ c.write_object.new.out.items kept c.in_ok-write_object.ensures)

pub returns : goal.returns
returns c =
    let start = c.into_iter-name-iterator.ensures.into_iter_gives in
    let ns = c.args.names.now in
    let os = c.args.objects.now in
    let seen = c.loop-name.yielded in
    let all = zip_end ns os seen c.into_iter-name-iterator.result c.loop-name.name-iterator c.next.new.self c.next.result (cc (start, c.zip-name-items.ensures.first, c.iter.ensures.rest)) (cc (start, c.zip-name-items.ensures.second.0)) c.loop-name.yielded_by c.in-None.is c.next.ensures.steps in
    objects_done ns os _ c.loop-name.out.items _ all c.loop-name.invariant
