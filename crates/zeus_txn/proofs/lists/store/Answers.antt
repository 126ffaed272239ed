use Rattle.std.proofs.Common.{◌≡◌, ◌==◌, ◌∙◌, ◌∷◌, [], None, Some, length, length-append, sym, ap, arith}
use Rattle.std.specs.List.{position}
use Rattle.zeus_txn.proofs.WriteLemmas.{position-below, rewritten-new, rewritten-old}
use Rattle.zeus_txn.proofs.lists.store.Goals as goal

pub set-requires : goal.set-requires
set-requires c =
    let at : position (λ w. c.args.obj == w.0) c.args.writes.now ≡ Some c.in-Some.place = rw (← c.as_slice.ensures.list) (sym c.place_of.ensures ∙ c.in-Some.is) in
    (omega arith, position-below (λ w. c.args.obj == w.0) c.args.writes.now c.in-Some.place at)

pub push-requires : goal.push-requires
push-requires c =
    let none : position (λ w. c.args.obj == w.0) c.args.writes.now ≡ None = rw (← c.as_slice.ensures.list) (sym c.place_of.ensures ∙ c.in-None.is) in
    let new = rewritten-new c.args.writes.now c.args.obj c.args.value none in
    omega (arith, ap length new, length-append c.args.writes.now ((c.args.obj, c.args.value) ∷ []))

pub returns-in-Some : goal.returns-in-Some
returns-in-Some c =
    let at : position (λ w. c.args.obj == w.0) c.args.writes.now ≡ Some c.in-Some.place = rw (← c.as_slice.ensures.list) (sym c.place_of.ensures ∙ c.in-Some.is) in
    c.set.ensures ∙ sym (rewritten-old c.args.writes.now c.args.obj c.args.value c.in-Some.place at)

pub returns-in-None : goal.returns-in-None
returns-in-None c =
    let none : position (λ w. c.args.obj == w.0) c.args.writes.now ≡ None = rw (← c.as_slice.ensures.list) (sym c.place_of.ensures ∙ c.in-None.is) in
    c.push.ensures ∙ sym (rewritten-new c.args.writes.now c.args.obj c.args.value none)
