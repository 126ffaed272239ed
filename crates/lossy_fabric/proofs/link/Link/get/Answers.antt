use Rattle.std.proofs.Common.{◌≡◌, Some, None, sym, ◌∙◌}
use Rattle.std.specs.List.{slice_get}
use Rattle.lossy_fabric.proofs.Runs.{got, got_within, got_none}
use Rattle.lossy_fabric.proofs.link.Link.get.Goals as goal

pub returns-in_err-start : goal.returns-in_err-start
returns-in_err-start c =
    let asked : c.start_of.result ≡ slice_get c.self.inside.starts.items c.args.number = rw (← c.deref.ensures.value) c.start_of.ensures in
    let none : slice_get c.self.inside.starts.items c.args.number ≡ None = sym asked ∙ c.in_err-start.was in
    rw (c.from_residual.ensures, ← c.self.view_is) (got_none c.self.inside.bytes.items c.self.inside.starts.items c.args.number none)

pub packet_at-requires : goal.packet_at-requires
packet_at-requires c =
    let asked : c.start_of.result ≡ slice_get c.self.inside.starts.items c.args.number = rw (← c.deref.ensures.value) c.start_of.ensures in
    let some : slice_get c.self.inside.starts.items c.args.number ≡ Some c.in_ok-start.start = sym asked ∙ c.in_ok-start.was in
    rw c.deref-2.ensures.value (got_within c.self.inside.bytes.items c.self.inside.starts.items c.args.number c.in_ok-start.start c.self.invariant.1 some)

pub returns : goal.returns
returns c =
    let asked : c.start_of.result ≡ slice_get c.self.inside.starts.items c.args.number = rw (← c.deref.ensures.value) c.start_of.ensures in
    let some : slice_get c.self.inside.starts.items c.args.number ≡ Some c.in_ok-start.start = sym asked ∙ c.in_ok-start.was in
    let read = got c.self.inside.bytes.items c.self.inside.starts.items c.args.number c.in_ok-start.start c.self.invariant.1 some in
    rw (← c.self.view_is) (c.packet_at.ensures ∙ rw c.deref-2.ensures.value read)
