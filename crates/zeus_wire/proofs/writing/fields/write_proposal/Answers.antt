use Rattle.std.proofs.Common.{◌++◌, ap, sym, ◌∙◌}
use Rattle.zeus_model.specs.PacketSpelling.{u64_bytes, proposal_bytes}
use Rattle.zeus_wire.proofs.Numbers.{proposal_spelled}
use Rattle.zeus_wire.proofs.writing.fields.write_proposal.Goals as goal

-- src/writing/fields.rt:71:1
pub returns-clause-bytes : goal.returns-clause-bytes
returns-clause-bytes c =
    let stamp = c.version_of.ensures.bytes ∙ ap (λ p. u64_bytes p.stamp.ver) (sym c.p.view_is) in
    let base = c.version_of-2.ensures.bytes ∙ ap (λ p. u64_bytes p.base.ver) (sym c.p.view_is) in
    c.write_bytes.ensures.bytes
    ∙ ap (λ l. c.args.out.now.items ++ l)
    (proposal_spelled _ c.version_of.result c.version_of-2.result c.byte_of-replicas.result c.byte_of-replicas.ensures.byte stamp base ∙ ap proposal_bytes c.p.view_is)
