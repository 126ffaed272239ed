use Rattle.smallbank.proofs.Answering.{refused_answer}
use Rattle.smallbank.proofs.command.answer.Goals as goal

pub returns-in-InvalidData : goal.returns-in-InvalidData
returns-in-InvalidData g c = rw c.in-Err.is (refused_answer _ _ _ (λ n asked. asked) c.refuse.ensures)
