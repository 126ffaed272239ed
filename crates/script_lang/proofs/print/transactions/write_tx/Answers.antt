use Rattle.std.proofs.Common.{◌≡◌, ◌++◌, OnOk, subst, List, ℕ, append_assoc, refl}
use Rattle.zeus_model.specs.Spelling.{spaced, tx_op_words}
use Rattle.script_lang.proofs.Printing.{tx_parts}
use Rattle.script_lang.proofs.print.transactions.write_tx.Goals as goal

three_parts : (out a b c o1 o2 whole : List ℕ) → o1 ≡ out ++ a → o2 ≡ o1 ++ b → whole ≡ a ++ b ++ c → o2 ++ c ≡ out ++ whole
three_parts out a b c o1 o2 whole first second all = rw (second, first, all) (simp append_assoc refl)

pub returns : goal.returns
returns c =
    let t = c.args.decl.now in
    let ops : c.write_ops.new.out.items ≡ c.write_tx_head.new.out.items ++ spaced (tx_op_words c.args.names.now t.tx) = cc (c.ops.ensures.list, c.in_ok-write_ops.ensures) in
    let whole = three_parts c.args.out.now.items _ _ _ _ _ _ c.in_ok-write_tx_head.ensures ops (tx_parts c.args.names.now t) in
    subst (λ (t : List ℕ). OnOk c.write_line_end.result (c.write_line_end.new.out.items ≡ t)) whole c.write_line_end.ensures
