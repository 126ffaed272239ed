use Rattle.std.proofs.Common.{rules, ◌≡◌, ◌++◌, [], ◌∷◌, length, Some, None, refl}
use Rattle.zeus_model.specs.World.{last_view, view_refused}
use Rattle.membership.proofs.Making.{last-known, made_answer-known, made_views-known, refused_views-known, stops-known, view-refused}
use Rattle.membership.proofs.service.Service.view.Goals as goal

pub returns-in-Some-clause-answer : goal.returns-in-Some-clause-answer
returns-in-Some-clause-answer c = λ w is.
    let last : c.last.result ≡ last_view c.args.self.now = c.last.ensures in
    let refused : Some c.in-Some.refused ≡ view_refused w c.args.members =
    c.in-Some.ensures w (last-known w _ c.args.stopped _ is last) (stops-known w _ c.args.stopped _ is last)
    in
    rw (view-refused w c.args.members c.in-Some.refused refused) refl

pub returns-in-Some-clause-after : goal.returns-in-Some-clause-after
returns-in-Some-clause-after c = λ w is.
    let last : c.last.result ≡ last_view c.args.self.now = c.last.ensures in
    let refused : Some c.in-Some.refused ≡ view_refused w c.args.members =
    c.in-Some.ensures w (last-known w _ c.args.stopped _ is last) (stops-known w _ c.args.stopped _ is last)
    in
    refused_views-known w c.args.self.now c.args.stopped c.args.members c.in-Some.refused is refused

pub returns-clause-answer : goal.returns-clause-answer
returns-clause-answer c = λ w is.
    let last : c.last.result ≡ last_view c.args.self.now = c.last.ensures in
    let none : None ≡ view_refused w c.args.members =
    c.in_default.ensures w (last-known w _ c.args.stopped _ is last) (stops-known w _ c.args.stopped _ is last)
    in
    let grown : c.push.new.self.items ≡ c.args.self.now ++ c.args.members ∷ [] = search rules in
    let size : c.len.result ≡ length c.push.new.self.items = search rules in
    made_answer-known w c.args.self.now c.args.stopped c.args.members _ is none (rw (← grown) size)

pub returns-clause-after : goal.returns-clause-after
returns-clause-after c = λ w is.
    let last : c.last.result ≡ last_view c.args.self.now = c.last.ensures in
    let none : None ≡ view_refused w c.args.members =
    c.in_default.ensures w (last-known w _ c.args.stopped _ is last) (stops-known w _ c.args.stopped _ is last)
    in
    let grown : c.push.new.self.items ≡ c.args.self.now ++ c.args.members ∷ [] = search rules in
    rw grown (made_views-known w c.args.self.now c.args.stopped c.args.members is none)
