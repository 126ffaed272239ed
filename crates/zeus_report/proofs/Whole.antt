-- The parts of a report are the whole of it.
use Rattle.std.proofs.Common.{ℕ, ◌≡◌, List, ◌++◌, ap, ◌∙◌}
use Rattle.zeus_base.specs.declared.step.Step.{Step}
use Rattle.zeus_model.specs.declared.script.Script.{Script}
use Rattle.zeus_model.specs.ReportText.{report, report_head, steps_text, final_text, start_of}
use Rattle.zeus_model.specs.World.{World, run}

three_parts : (h s f head events lines whole standing : List ℕ) → head ≡ h → lines ≡ s → events ≡ head ++ lines → standing ≡ f → whole ≡ events ++ standing → whole ≡ h ++ s ++ f
three_parts h s f head events lines whole standing headed lined added stood ended =
    cc (headed, lined, added, stood, ended)

-- the head, the lines of the steps from the start on, and how the world stands after them
pub whole_report : (s : Script) (names : List (List ℕ)) (ss : List Step) (begun ended : World) (head events whole : List ℕ) → names ≡ s.names → ss ≡ s.steps → begun ≡ start_of s → ended ≡ run begun ss → head ≡ report_head s.config.version → events ≡ head ++ steps_text names begun 0 ss → whole ≡ events ++ final_text names ended → whole ≡ report s
unfolding report
whole_report s names ss begun ended head events whole same_names same_steps at_start at_end headed added standing =
    let same_end : ended ≡ run (start_of s) s.steps = cc (at_end, at_start, same_steps) in
    let lines : steps_text names begun 0 ss ≡ steps_text s.names (start_of s) 0 s.steps = cc (same_names, at_start, same_steps) in
    let stood : final_text names ended ≡ final_text s.names (run (start_of s) s.steps) = ap (λ n. final_text n ended) same_names ∙ ap (λ w. final_text s.names w) same_end in
    three_parts _ _ _ _ _ _ _ _ headed lines added stood standing
