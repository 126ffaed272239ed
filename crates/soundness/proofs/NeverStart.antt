-- At the start of a run nothing is there of undeclared objects, and so it stays.
use Rattle.std.specs.Prelude.{ℕ, suc, ◌≡◌, ◌+◌, ◌≤◌, List, [], ◌∷◌, length, map, replicate, All, None}
use Rattle.std.proofs.Common.{arith, refl, sym, ap, ◌∙◌, inl, inr, subst}
use Rattle.std.proofs.lemmas.Bool.{cases_lt}
use Rattle.std.proofs.lemmas.List.Elements.{All-head, All-tail}
use Rattle.zeus_base.specs.Limits.{KeepsLimits}
use Rattle.zeus_base.specs.declared.config.Config.{Config}
use Rattle.zeus_base.specs.declared.step.Step.{Step}
use Rattle.zeus_base.specs.TableLaws.{nth-past}
use Rattle.zeus_packet.specs.declared.letter.Letter.{Letter}
use Rattle.zeus_txn.specs.declared.tx.TxDecl.{TxDecl}
use Rattle.zeus_model.specs.In.{In}
use Rattle.zeus_model.specs.Tables.{nth, below}
use Rattle.zeus_model.specs.State.{Node, no_entry, entry, copy, gather}
use Rattle.zeus_model.specs.World.{World, no_node, link, start, start_node, start_entry, start_copy, start_gather, stepped, run}
use Rattle.machine_moves.specs.Fits.{StepFits}
use Rattle.machine_moves.specs.SystemState.{system}
use Rattle.machine_moves.proofs.Links.{In-to_link}
use Rattle.machine_moves.proofs.Lists.{In-nothing, nth-map_numbers, length-map_numbers, nth-replicate}
use Rattle.machine_moves.proofs.Runs.{usual_after}
use Rattle.machine_moves.proofs.Start.{start_usual, start-config}
use Rattle.machine_moves.proofs.Steps.{IsStep, IsUsual, step_is_moves}
use Rattle.soundness.proofs.NeverUndeclared.{HasNoContent, IsUntouchedHeld, IsUntouchedNode, IsUntouched}
use Rattle.soundness.proofs.UndeclaredUntouched.{moves_untouched}
use Rattle.zeus_model.specs.declared.state.Entry.{Entry}

length-map : {A B : Type 0} (f : A → B) (xs : List A) → length (map f xs) ≡ length xs
length-map f [] = refl
length-map f (x ∷ xs) = ap suc (length-map f xs)

-- a node that stands at no entry, and has neither copy nor gather
empty_untouched : (n : Node) (x : ℕ) → entry n x ≡ no_entry → copy n x ≡ None → gather n x ≡ None → IsUntouchedNode n x
unfolding IsUntouchedHeld HasNoContent
empty_untouched n x e c g =
    record {
      stamp = ap (λ (k : Entry). k.stamp) e;
      place = ap (λ (k : Entry). k.place) e;
      held = rw e tt;
      copy = c;
      gather = rw g tt;
    }

start_node_untouched : (c : Config) (n x : ℕ) → length c.objects ≤ x → IsUntouchedNode (start_node c n) x
unfolding start_node
start_node_untouched c n x h =
    empty_untouched (start_node c n) x
    (nth-past no_entry (map start_entry c.objects) x (omega (arith, h, length-map start_entry c.objects)))
    (nth-past None (map (start_copy n) c.objects) x (omega (arith, h, length-map (start_copy n) c.objects)))
    (nth-past None (map start_gather c.objects) x (omega (arith, h, length-map start_gather c.objects)))

no_node_untouched : (x : ℕ) → IsUntouchedNode no_node x
unfolding nth
no_node_untouched x = empty_untouched no_node x refl refl refl

started_untouched : (c : Config) (txs : List TxDecl) (n x : ℕ) → length c.objects ≤ x → IsUntouchedNode ((system (start c txs)).node n) x
unfolding system start
started_untouched c txs n x h =
    elim (cases_lt n c.nodes) [
      | inl within ↦ subst (λ (m : Node). IsUntouchedNode m x) (sym (nth-map_numbers no_node (start_node c) 0 c.nodes n within)) (start_node_untouched c (0 + n) x h)
      | inr past ↦
          subst (λ (m : Node). IsUntouchedNode m x)
          (sym (nth-past no_node (map (start_node c) (below c.nodes)) n (omega (arith, past, length-map_numbers (start_node c) 0 c.nodes)))) (no_node_untouched x)
    ]

no_row : (n to : ℕ) → nth {A = List Letter} [] (replicate n []) to ≡ []
no_row n to = elim (nth-replicate {A = List Letter} [] [] n to) [ inl e ↦ e | inr e ↦ e ]

no_link : (n from to : ℕ) → link (replicate n (replicate n [])) from to ≡ []
no_link n from to =
    elim (nth-replicate {A = List (List Letter)} [] (replicate n []) n from) [
      | inl e ↦ ap (λ (row : List (List Letter)). nth [] row to) e ∙ no_row n to
      | inr e ↦ ap (λ (row : List (List Letter)). nth [] row to) e ∙ nth-past [] [] to (omega arith)
    ]

start_unsent : {P : Type 0} (c : Config) (txs : List TxDecl) (l : Letter) → In l (system (start c txs)).letters → P
unfolding system start
start_unsent c txs l i =
    let on = In-to_link (start c txs).links l i in
    In-nothing l (subst (λ (ls : List Letter). In l ls) (no_link c.nodes on.from on.to) on.is)

start_untouched : (c : Config) (txs : List TxDecl) (x : ℕ) → length c.objects ≤ x → IsUntouched (system (start c txs)) x
start_untouched c txs x h = record { nodes = λ n. started_untouched c txs n x h; letters = λ l i. start_unsent c txs l i }

run_untouched_from : (c : Config) (txs : List TxDecl) (x : ℕ) (steps : List Step) (w : World) → w.config ≡ c → IsUsual w → All (StepFits c txs) steps → IsUntouched (system w) x → IsUntouched (system (run w steps)) x
unfolding run
run_untouched_from c txs x [] w is u fits h = h
run_untouched_from c txs x (s ∷ ss) w is u fits h =
    let fit : StepFits c txs s = All-head (StepFits c txs) s ss fits in
    let step : IsStep w (stepped w s) = step_is_moves w s txs u (rw is fit) in
    run_untouched_from c txs x ss (stepped w s) (step.config ∙ is) (usual_after w (stepped w s) u step) (All-tail (StepFits c txs) s ss fits)
    (moves_untouched (system w) (system (stepped w s)) x u.steady step.moves h)

-- nothing comes of an undeclared object, in every run
pub run_untouched : (c : Config) (txs : List TxDecl) (steps : List Step) (x : ℕ) → KeepsLimits c → All (StepFits c txs) steps → length c.objects ≤ x
    → IsUntouched (system (run (start c txs) steps)) x
run_untouched c txs steps x keeps fits h = run_untouched_from c txs x steps (start c txs) (start-config c txs) (start_usual c txs keeps) fits (start_untouched c txs x h)
