use Rattle.std.proofs.Common.{ℕ, ◌≡◌, ◌<◌, ◌≤◌, List, get_or, length, string_bytes, sym, ap, ◌∙◌, arith, codes}
use Rattle.std.specs.Prelude.{decimal}
use Rattle.bank_report.proofs.Words.{get_or-mapped, mapped_next, mapped-none, told_same}
use Rattle.bank_report.proofs.numbers.BankNumbers.from_words.Goals as goal

pub returns-in_err-number_in-6-clause-none : goal.returns-in_err-number_in-6-clause-none
returns-in_err-number_in-6-clause-none c = λ _ n is.
    let there : 6 < length c.args.words.now = omega arith in
    let item = get_or-mapped string_bytes c.args.words.now 6 c.start-item.result there c.start-item.is in
    let spelled : string_bytes c.start-item.result ≡ decimal n.start =
    sym item ∙ ap (λ (ws : List (List ℕ)). get_or ws 6 (string_bytes c.start-item.result)) is.spelled in
    let short = is.fits.start in
    c.number_in-6.ensures.none c.in_err-number_in-6.was n.start
    record { spelled = c.as_str-7.ensures.value ∙ spelled; low = omega arith; high = omega arith }

pub returns-clause-numbers : goal.returns-clause-numbers
returns-clause-numbers c =
    let words = c.args.words.now in
    let size : length words ≤ 7 = omega arith in
    let all : 6 < length words = omega arith in
    let command : string_bytes c.command-item.result ≡ codes "bank" =
    sym c.as_str.ensures.value ∙ told_same c.as_str.result.now (codes "bank") c.ne.result c.ne.ensures c.if-ne.false in
    let start = mapped_next string_bytes words 6 c.start-item.result _ _ all c.start-item.is (sym c.as_str-7.ensures.value ∙ c.in_ok-number_in-6.ensures.number.spelled) (mapped-none string_bytes words 7 size) in
    let stops = mapped_next string_bytes words 5 c.stops-item.result _ _ (omega arith) c.stops-item.is (sym c.as_str-6.ensures.value ∙ c.in_ok-number_in-5.ensures.number.spelled) start in
    let loss = mapped_next string_bytes words 4 c.loss-item.result _ _ (omega arith) c.loss-item.is (sym c.as_str-5.ensures.value ∙ c.in_ok-number_in-4.ensures.number.spelled) stops in
    let steps = mapped_next string_bytes words 3 c.steps-item.result _ _ (omega arith) c.steps-item.is (sym c.as_str-4.ensures.value ∙ c.in_ok-number_in-3.ensures.number.spelled) loss in
    let txs = mapped_next string_bytes words 2 c.txs-item.result _ _ (omega arith) c.txs-item.is (sym c.as_str-3.ensures.value ∙ c.in_ok-number_in-2.ensures.number.spelled) steps in
    let accounts = mapped_next string_bytes words 1 c.accounts-item.result _ _ (omega arith) c.accounts-item.is (sym c.as_str-2.ensures.value ∙ c.in_ok-number_in.ensures.number.spelled) txs in
    let spelled = mapped_next string_bytes words 0 c.command-item.result _ _ (omega arith) c.command-item.is command accounts in
    record {
      spelled = spelled;
      fits = record {
        some_accounts = c.in_ok-number_in.ensures.number.low;
        few_accounts = c.in_ok-number_in.ensures.number.high;
        txs = c.in_ok-number_in-2.ensures.number.high;
        steps = c.in_ok-number_in-3.ensures.number.high;
        loss = c.in_ok-number_in-4.ensures.number.high;
        stops = c.in_ok-number_in-5.ensures.number.high;
        start = let high = c.in_ok-number_in-6.ensures.number.high in omega arith;
      };
    }
