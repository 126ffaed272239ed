-- What the lines so far tell fits the script: each transaction has its mark, and versions are few.
use Rattle.std.specs.Prelude.{◌≡◌, ℕ, suc, ◌*◌, ◌<◌, ◌≤◌, Bool, true, false, List, [], ◌∷◌, length, if◌then◌else◌}
use Rattle.zeus_base.specs.declared.step.Step.{Step}
use Rattle.zeus_base.specs.declared.step.Step.TheVariants as steps
use Rattle.zeus_txn.specs.Map.{content}
use Rattle.zeus_model.specs.declared.script.Script.{Script}
use Rattle.zeus_audit.specs.declared.stage.Mark.{Mark}
use Rattle.zeus_audit.specs.declared.stage.Mark.TheVariants as marks
use Rattle.zeus_audit.specs.Progress.{State}

-- whether the transaction has its point
unfoldable pub has_point : Mark → Bool
has_point marks.Passed = true
has_point marks.Acked = true
has_point _ = false

-- how many transactions have their point
unfoldable pub count_of_points : List Mark → ℕ
count_of_points [] = 0
count_of_points (m ∷ ms) = if has_point m then suc (count_of_points ms) else count_of_points ms

-- a step that begins a transaction begins one of so many
unfoldable pub BeginsBelow : ℕ → Step → Type 0
BeginsBelow txs (steps.Begin k) = k < txs
BeginsBelow txs _ = Unit {0}

-- each transaction has its mark, the map has each object, and no version is above what the points can write
pub record Fits (s : Script) (st : State) : Type 0 where
  pub marks : length st.marks ≡ length s.txs
  pub objects : length s.config.objects ≤ length st.map
  pub versions : (x : ℕ) → (content st.map x).ver ≤ 16 * count_of_points st.marks
