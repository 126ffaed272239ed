-- Which scripts of leases there are, and the one text of each.
use Rattle.std.specs.Prelude.{ℕ, suc, ◌≡◌, ◌<◌, ◌≤◌, ◌^◌, List, [], ◌∷◌, ◌++◌, All, codes, decimal, length, map}
use Rattle.zeus_base.specs.NodeLaws.{IsRising, IsBelow}
use Rattle.zeus_model.specs.Spelling.{lines_text}
use Rattle.zeus_lease.specs.declared.script.LeaseScript.{LeaseScript}
use Rattle.zeus_lease.specs.declared.step.LeaseStep.{LeaseStep}
use Rattle.zeus_lease.specs.declared.step.LeaseStep.TheVariants.{Pass, Ask, Hear, Take, Act, View}

-- a step keeps the ranges: a pass has a number below 2^32 for each node and then the service's, nodes are such as there are,
-- the numbers of asks and grants are below 2^32, and a view lists nodes rising, or none
unfoldable pub FitsStep : ℕ → LeaseStep → Type 0
FitsStep nodes (Pass ticks) = (length ticks ≡ suc nodes) × All (λ t. t < 2 ^ 32) ticks
FitsStep nodes (Ask n) = n < nodes
FitsStep nodes (Hear i) = i < 2 ^ 32
FitsStep nodes (Take i) = i < 2 ^ 32
FitsStep nodes (Act n) = n < nodes
FitsStep nodes (View set) = IsRising set × IsBelow nodes set

-- 1 to 8 nodes, a length from 1 to 2^32 - 1, and at most 100 percent
pub record FitsNumbers (nodes term percent : ℕ) : Type 0 where
  pub few : (1 ≤ nodes) × (nodes ≤ 8)
  pub long : (1 ≤ term) × (term < 2 ^ 32)
  pub close : percent ≤ 100

-- a script keeps the ranges and has at most 50,000 steps, however long its text
pub record FitsScript (s : LeaseScript) : Type 0 where
  pub numbers : FitsNumbers s.nodes s.length s.percent
  pub steps : All (FitsStep s.nodes) s.steps
  pub few_steps : length s.steps ≤ 50000

-- a step: its keyword and its numbers
unfoldable pub step_words : LeaseStep → List (List ℕ)
step_words (Pass ticks) = codes "pass" ∷ map decimal ticks
step_words (Ask n) = codes "ask" ∷ decimal n ∷ []
step_words (Hear i) = codes "hear" ∷ decimal i ∷ []
step_words (Take i) = codes "take" ∷ decimal i ∷ []
step_words (Act n) = codes "act" ∷ decimal n ∷ []
step_words (View set) = codes "view" ∷ map decimal set

-- a line of a word and a number
abbrev pub number_line : List ℕ → ℕ → List (List ℕ)
number_line w n = w ∷ decimal n ∷ []

-- the lines of a script: version, nodes, length, percent, the steps, and `end`
unfoldable pub script_lines : LeaseScript → List (List (List ℕ))
script_lines s =
    (codes "leases" ∷ codes "1" ∷ []) ∷ number_line (codes "nodes") s.nodes ∷ number_line (codes "length") s.length
    ∷ number_line (codes "percent") s.percent ∷ map step_words s.steps ++ (codes "end" ∷ []) ∷ []

-- the text of a script
unfoldable pub spelling : LeaseScript → List ℕ
spelling s = lines_text (script_lines s)

-- bytes are those of a script where they are its text, of at most 4,194,304 bytes
pub record IsSpelled (bytes : List ℕ) (s : LeaseScript) : Type 0 where
  pub fits : FitsScript s
  pub few_bytes : length bytes ≤ 4194304
  pub spelled : bytes ≡ spelling s
