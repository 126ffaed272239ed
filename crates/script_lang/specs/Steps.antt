-- Steps as lines.
use Rattle.std.specs.Prelude.{ℕ, ◌^◌, List, [], Option, Some, None, Result, Ok, codes, if◌then◌else◌}
use Rattle.std.specs.Str.{bytes_eq}
use Rattle.zeus_base.specs.declared.step.Step.{Step}
use Rattle.zeus_base.specs.declared.step.Step.TheVariants as steps
use Rattle.zeus_model.specs.declared.fault.Kind.{Kind}
use Rattle.script_lang.specs.declared.keywords.StepWord.{StepWord}
use Rattle.script_lang.specs.declared.keywords.StepWord.TheVariants as words
use Rattle.script_lang.specs.Reads.{◌>>=◌, ended}
use Rattle.script_lang.specs.Numbers.{range_at}
use Rattle.script_lang.specs.NodeLists.{nodes_after}

-- the word of a step
unfoldable pub step_word_of : List ℕ → Option StepWord
step_word_of w =
    if bytes_eq w (codes "begin") then Some words.Begin else
    (if bytes_eq w (codes "try") then Some words.Try else
    (if bytes_eq w (codes "deliver") then Some words.Deliver else
    (if bytes_eq w (codes "tick") then Some words.Tick else
    (if bytes_eq w (codes "stop") then Some words.Stop else
    (if bytes_eq w (codes "view") then Some words.View else
    (if bytes_eq w (codes "install") then Some words.Install else None))))))

-- the step of a word and the numbers behind it
unfoldable pub step_at : ℕ → ℕ → ℕ → StepWord → List (List ℕ) → Result Step Kind
step_at nodes slots txs words.Begin ws = do
  k ← range_at 0 txs ws
  e ← ended k.1
  Ok (steps.Begin k.0)
step_at nodes slots txs words.Try ws = do
  n ← range_at 0 nodes ws
  s ← range_at 0 slots n.1
  e ← ended s.1
  Ok (steps.Try n.0 s.0)
step_at nodes slots txs words.Deliver ws = do
  n ← range_at 0 nodes ws
  m ← range_at 0 nodes n.1
  i ← range_at 0 (2 ^ 32) m.1
  e ← ended i.1
  Ok (steps.Deliver n.0 m.0 i.0)
step_at nodes slots txs words.Tick ws = do
  n ← range_at 0 nodes ws
  e ← ended n.1
  Ok (steps.Tick n.0)
step_at nodes slots txs words.Stop ws = do
  n ← range_at 0 nodes ws
  e ← ended n.1
  Ok (steps.Stop n.0)
step_at nodes slots txs words.View ws = do
  ns ← nodes_after nodes None None [] 0 ws
  Ok (steps.View ns)
step_at nodes slots txs words.Install ws = do
  n ← range_at 0 nodes ws
  i ← range_at 1 (2 ^ 32) n.1
  e ← ended i.1
  Ok (steps.Install n.0 i.0)
