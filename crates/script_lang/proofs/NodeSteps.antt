-- A list of nodes, from one word to the next.
use Rattle.std.proofs.Common.{◌≡◌, ℕ, suc, List, [], ◌∷◌, Option, Result, Ok, Err, refl, sym, ap, ◌∙◌}
use Rattle.zeus_base.specs.Nodes.{with_node}
use Rattle.zeus_model.specs.declared.fault.Kind.{Kind}
use Rattle.script_lang.specs.NodeLists.{listed_of, nodes_after}

module _ (nodes : ℕ) (most owner : Option ℕ) (listed : List ℕ) (lowest : ℕ) (parts : List (List ℕ)) (total : Result (List ℕ) Kind)
    (so_far : nodes_after nodes most owner listed lowest parts ≡ total) where
  pub nodes_next : (n : ℕ) (w : List ℕ) (ws : List (List ℕ)) → parts ≡ w ∷ ws → listed_of nodes most owner listed lowest w ≡ Ok n → nodes_after nodes most owner (with_node n listed) (suc n) ws ≡ total
  unfolding nodes_after
  nodes_next n w ws is next =
      let here : nodes_after nodes most owner listed lowest (w ∷ ws) ≡ nodes_after nodes most owner (with_node n listed) (suc n) ws = rw next refl in
      sym here ∙ ap (nodes_after nodes most owner listed lowest) (sym is) ∙ so_far

  pub nodes_fail : (k : Kind) (w : List ℕ) (ws : List (List ℕ)) → parts ≡ w ∷ ws → listed_of nodes most owner listed lowest w ≡ Err k → Err k ≡ total
  unfolding nodes_after
  nodes_fail k w ws is next =
      let here : nodes_after nodes most owner listed lowest (w ∷ ws) ≡ Err k = rw next refl in
      sym here ∙ ap (nodes_after nodes most owner listed lowest) (sym is) ∙ so_far

  pub nodes_end : parts ≡ [] → Ok listed ≡ total
  unfolding nodes_after
  nodes_end is = ap (nodes_after nodes most owner listed lowest) (sym is) ∙ so_far
