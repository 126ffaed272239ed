use Rattle.std.proofs.Common.{◌∷◌, ◌++◌, ap, ◌∙◌}
use Rattle.zeus_model.specs.PacketSpelling.{u32_bytes}
use Rattle.zeus_wire.proofs.Numbers.{head_spelled}
use Rattle.zeus_wire.proofs.writing.write_head.Goals as goal

-- src/writing.rt:38:1
pub returns-clause-bytes : goal.returns-clause-bytes
returns-clause-bytes c =
    c.write_bytes.ensures.bytes
    ∙ ap (λ l. c.args.out.now.items ++ l)
    (head_spelled c.args.version c.args.number _ _ _ c.to_be_bytes.result c.to_be_bytes-2.result c.to_be_bytes.ensures c.to_be_bytes-2.ensures
    ∙ ap (λ l. c.args.version ∷ (u32_bytes c.args.number ++ l.from ∷ l.to ∷ u32_bytes l.epoch)) c.letter.view_is)
