-- How the program ends, by what is asked for and by what was written.
use Rattle.std.proofs.Common.{ℕ, zero, suc, ◌≡◌, List, inl, inr, refl, sym, subst, ◌∙◌}
use Rattle.zeus_io.specs.declared.status.Status.{Status}
use Rattle.zeus_io.specs.declared.status.Status.TheVariants.{Usage}
use Rattle.bank_report.specs.declared.numbers.BankNumbers.{BankNumbers}
use Rattle.smallbank.specs.Run.{bank_text, bank_world, unclosed}
use Rattle.smallbank.specs.Top.{AsksNone, HasEnded, IsAnswered, IsAsked, IsDue, IsWritten, Sinks, status_of, usage_line}

-- if the words ask for no bank, and the line of usage was written or failed, then the program has answered
pub refused_answer : (asks : BankNumbers → Type 0) (s : Sinks) (r : Status) → AsksNone asks → HasEnded s usage_line Usage r → IsAnswered asks s r
unfolding IsAnswered IsDue
refused_answer asks s r none (inl w) = subst (λ (q : Status). IsAnswered asks s q) (sym w.0) (none, w.1)
refused_answer asks s r none (inr f) = subst (λ (q : Status). IsAnswered asks s q) (sym f.0) (usage_line, inl (none, refl), f.1)

-- a run that is told with this text, of which so many transactions are not closed
pub told_answer : (asks : BankNumbers → Type 0) (s : Sinks) (r : Status) (n : BankNumbers) (u : ℕ) (text : List ℕ) → IsAsked asks n → text ≡ bank_text n
    → u ≡ unclosed (bank_world n) → HasEnded s text (status_of u) r → IsAnswered asks s r
unfolding IsAnswered IsDue status_of
told_answer asks s r n zero text asked is count (inl w) =
    subst (λ (q : Status). IsAnswered asks s q) (sym w.0) (n, asked, sym count, subst (λ t. IsWritten s t) is w.1)
told_answer asks s r n (suc u) text asked is count (inl w) =
    subst (λ (q : Status). IsAnswered asks s q) (sym w.0)
    (n, asked, (λ none. let no : suc u ≡ 0 = count ∙ none in cc), subst (λ t. IsWritten s t) is w.1)
told_answer asks s r n u text asked is count (inr f) = subst (λ (q : Status). IsAnswered asks s q) (sym f.0) (text, inr (n, asked, is), f.1)
