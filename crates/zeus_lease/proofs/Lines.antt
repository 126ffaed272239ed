-- The printed lines of steps, one after another.
use Rattle.std.proofs.Common.{ℕ, suc, ◌≡◌, ◌<◌, ◌≤◌, ◌+◌, List, [], ◌∷◌, ◌++◌, length, get_or, drop, append_assoc, arith, refl}
use Rattle.std.proofs.Math.ListN.{drop_of_length-le}
use Rattle.std.proofs.lemmas.List.{drop_more, append-nil}
use Rattle.zeus_lease.specs.declared.step.LeaseStep.{LeaseStep}
use Rattle.zeus_lease.specs.Machine.{Machine, happens, stepped}
use Rattle.zeus_lease.specs.Text.{answer_line, answer_lines}

-- the line of one more step
pub text_more : (m after : Machine) (ss : List LeaseStep) (i : ℕ) (s : LeaseStep) (out written whole : List ℕ) → i < length ss → s ≡ get_or ss i s → after ≡ stepped m s → out ++ answer_lines m i (drop i ss) ≡ whole → written ≡ out ++ answer_line i s (happens m s).answer
    → written ++ answer_lines after (i + 1) (drop (i + 1) ss) ≡ whole
unfolding answer_lines
text_more m after ss i s out written whole h here taken kept added =
    let e = drop_more ss i s h in
    let n : i + 1 ≡ suc i = omega arith in
    let f : answer_lines m i (s ∷ drop (i + 1) ss) ≡ answer_line i s (happens m s).answer ++ answer_lines (stepped m s) (suc i) (drop (i + 1) ss) = refl in
    let a = append_assoc out (answer_line i s (happens m s).answer) (answer_lines (stepped m s) (suc i) (drop (i + 1) ss)) in
    let v : answer_lines after (i + 1) (drop (i + 1) ss) ≡ answer_lines (stepped m s) (suc i) (drop (i + 1) ss) = cc (n, taken) in
    cc (e, f, a, v)

-- if no step is left, then the lines printed are all of them
pub text_done : (m : Machine) (ss : List LeaseStep) (i : ℕ) (out whole : List ℕ) → length ss ≤ i → out ++ answer_lines m i (drop i ss) ≡ whole → out ≡ whole
unfolding answer_lines
text_done m ss i out whole h kept =
    let e = drop_of_length-le ss h in
    let f : answer_lines m i [] ≡ [] = refl in
    let a = append-nil out in
    cc (e, f, a)

-- one more step is counted as one more
pub count_more : (m : Machine) (s : LeaseStep) (first i : ℕ) → m.steps ≡ first + i → (stepped m s).steps ≡ first + (i + 1)
unfolding stepped
count_more m s first i h = omega (arith, h)
