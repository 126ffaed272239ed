use Rattle.std.proofs.Common.{◌≡◌, ◌++◌, OnOk, subst, List, ℕ, ap, codes, sym}
use Rattle.script_lang.specs.Lines.{number_line, directory_line}
use Rattle.script_lang.proofs.Printing.{head_parts, next_written}
use Rattle.script_lang.proofs.print.head.write_head.Goals as goal

pub returns : goal.returns
returns c =
    let config = c.args.config.now in
    let all = ap (λ (t : List ℕ). c.args.out.now.items ++ t) (sym (head_parts config)) in
    let version = next_written c.args.out.now.items (number_line (codes "zeus") config.version) _ _ _ all c.in_ok-write_number_line.ensures in
    let nodes = next_written c.write_number_line.new.out.items (number_line (codes "nodes") config.nodes) _ _ _ version c.in_ok-write_number_line-2.ensures in
    let slots = next_written c.write_number_line-2.new.out.items (number_line (codes "slots") config.slots) _ _ _ nodes c.in_ok-write_number_line-3.ensures in
    let directory = next_written c.write_number_line-3.new.out.items (directory_line config.directory) _ _ _ slots c.in_ok-write_directory.ensures in
    subst (λ (t : List ℕ). OnOk c.write_degree.result (c.write_degree.new.out.items ≡ t)) directory c.write_degree.ensures
