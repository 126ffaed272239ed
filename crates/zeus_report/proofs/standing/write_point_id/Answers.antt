use Rattle.std.proofs.Common.{ℕ, ◌≡◌, ◌++◌, OnOk, subst, sym, ap}
use Rattle.zeus_base.specs.TableLaws.{nth_found}
use Rattle.zeus_model.specs.Book.{no_reply}
use Rattle.zeus_model.specs.ReportWords.{number}
use Rattle.zeus_report.specs.Lines.{point_at}
use Rattle.zeus_report.proofs.standing.write_point_id.Goals as goal

pub returns-in-Some : goal.returns-in-Some
returns-in-Some c =
    let points = c.args.book.now.book.points in
    let here = nth_found record { id = 0; reply = no_reply } points c.args.place _ (sym c.in-Some.ensures) in
    let id_here = ap (λ p. p.id) here in
    let view = c.id.view_is in
    let told = c.from.ensures in
    let same : c.from.result ≡ (point_at points c.args.place).id = cc (id_here, view, told) in
    let P : ℕ → Type 0 = λ n. OnOk c.write_number.result (c.write_number.new.out.items ≡ c.args.out.now.items ++ number n) in
    subst P same c.write_number.ensures
