use Rattle.std.proofs.Common.{◌≡◌, ◌++◌, OnOk, subst, List, ℕ, append_assoc}
use Rattle.std.proofs.lemmas.List.{append-nil}
use Rattle.script_lang.proofs.Printing.{no_ops, first_ops}
use Rattle.script_lang.proofs.print.transactions.write_ops.Goals as goal

pub returns-in-empty : goal.returns-in-empty
returns-in-empty c =
    let e = no_ops c.args.names.now c.args.ops.now c.in-empty.len_below in
    let f = append-nil c.args.out.now.items in
    cc (e, f)

two_parts : (out a b o1 whole : List ℕ) → o1 ≡ out ++ a → whole ≡ a ++ b → o1 ++ b ≡ out ++ whole
two_parts out a b o1 whole first both =
    let e = append_assoc out a b in
    cc (e, first, both)

pub returns-in_ok-write_op-in-len1-up : goal.returns-in_ok-write_op-in-len1-up
returns-in_ok-write_op-in-len1-up c =
    let e = first_ops c.args.names.now c.args.ops.now c.first-item.result c.in-len1-up.len_at_least c.first-item.is in
    let whole = two_parts c.args.out.now.items _ _ _ _ c.in_ok-write_op-in-len1-up.ensures e in
    subst (λ (t : List ℕ). OnOk c.write_more_ops.result (c.write_more_ops.new.out.items ≡ t)) whole c.write_more_ops.ensures
