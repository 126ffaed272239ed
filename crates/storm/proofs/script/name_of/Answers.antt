use Rattle.std.proofs.Common.{ℕ, ◌≡◌, ◌∙◌, ◌++◌, List, ap, sym, subst}
use Rattle.std.specs.Prelude.{codes, decimal}
use Rattle.zeus_model.specs.Names.{IsName}
use Rattle.storm.specs.Script.{storm_name}
use Rattle.storm.proofs.Naming.{storm_name-is}
use Rattle.storm.proofs.script.name_of.Goals as goal

pub unwrap-requires : goal.unwrap-requires
unfolding storm_name
unwrap-requires c =
    let letter : c.append.new.out.items ≡ codes "o" = c.in_ok-append.ensures ∙ ap (λ (xs : List ℕ). xs ++ codes "o") c.new-bytes.ensures.items in
    let digits = ap (λ (xs : List ℕ). xs ++ decimal c.from.result) letter ∙ ap (λ (n : ℕ). codes "o" ++ decimal n) c.from.ensures in
    let whole = c.as_slice.ensures.value ∙ (c.in_ok-write_decimal.ensures ∙ digits) in
    c.new.ensures.valid.1 (subst (λ (bytes : List ℕ). IsName bytes) (sym whole) (storm_name-is c.args.number c.requires))
