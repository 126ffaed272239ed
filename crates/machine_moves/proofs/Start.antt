-- The start of a run is as every moment is.
use Rattle.std.specs.Prelude.{ℕ, zero, suc, ◌≡◌, ◌+◌, ◌-◌, ◌<◌, ◌≤◌, true, false, List, [], ◌∷◌, length, map, replicate, None}
use Rattle.std.proofs.Common.{arith, refl, ap, inl, inr}
use Rattle.std.proofs.lemmas.Bool.{cases_lt}
use Rattle.std.proofs.lemmas.List.{length-replicate}
use Rattle.zeus_base.specs.Limits.{KeepsLimits}
use Rattle.zeus_base.specs.Nodes.{has}
use Rattle.zeus_base.specs.NodeLaws.{length-below}
use Rattle.zeus_base.specs.declared.config.Config.{Config}
use Rattle.zeus_base.specs.declared.config.ObjectDecl.{ObjectDecl}
use Rattle.zeus_base.specs.TableLaws.{nth-past}
use Rattle.zeus_packet.specs.declared.letter.Letter.{Letter}
use Rattle.zeus_txn.specs.declared.tx.TxDecl.{TxDecl}
use Rattle.zeus_model.specs.In.{In}
use Rattle.zeus_model.specs.Tables.{nth, below}
use Rattle.zeus_model.specs.State.{Slot, StreamLog, no_entry, no_slot, no_log}
use Rattle.zeus_model.specs.World.{no_node, node, link, start, start_node, start_entry}
use Rattle.machine_moves.specs.SystemState.{system}
use Rattle.machine_moves.proofs.Lists.{In-nothing, nth-map_numbers, length-map_numbers, nth-replicate, has-numbers_from}
use Rattle.machine_moves.proofs.Links.{HasEnds, In-to_link}
use Rattle.machine_moves.proofs.Within.{IsWithin}
use Rattle.machine_moves.proofs.Steady.{IsSteady, IsKnown}
use Rattle.machine_moves.proofs.Steps.{IsUsual}

-- ---- tables of one value

nth-none : {A : Type 0} (d : A) (n k : ℕ) → nth d (replicate n d) k ≡ d
nth-none d n k = elim (nth-replicate d d n k) [ inl same ↦ same | inr past ↦ past ]

-- a table of tables that are empty, or of one value each
nth-none_row : {A : Type 0} (d : A) (m n i k : ℕ) → nth d (nth [] (replicate m (replicate n d)) i) k ≡ d
nth-none_row d m n i k =
    elim (nth-replicate [] (replicate n d) m i) [
      | inl row ↦ rw row (nth-none d n k)
      | inr past ↦ rw past (nth-past d [] k (omega arith))
    ]

-- ---- a node at the start

start_proposal : (objects : List ObjectDecl) (x : ℕ) → (nth no_entry (map start_entry objects) x).proposal ≡ None
unfolding nth start_entry
start_proposal [] x = refl
start_proposal (o ∷ os) zero = refl
start_proposal (o ∷ os) (suc x) = start_proposal os x

start_within : (c : Config) (n : ℕ) → IsWithin c.slots (start_node c n)
unfolding start_node
start_within c n =
    record {
      slots = omega (arith, length-replicate c.slots no_slot);
      pending = λ i _. ap (λ (l : Slot). l.pending) (nth-none no_slot c.slots i);
      kept = λ t _. ap (λ (l : StreamLog). l.kept) (nth-none_row no_log c.nodes c.slots t.node t.slot);
      held = λ x p is. let nothing_held = start_proposal c.objects x in absurd cc;
    }

start_everywhere : (c : Config) (n e : ℕ) → n < c.nodes → 1 ≤ e → e ≤ 1 → has n (nth [] (below c.nodes ∷ []) (e - 1)) ≡ true
unfolding nth
start_everywhere c n e h ge le = let first : e - 1 ≡ 0 = omega arith in rw first (has-numbers_from n 0 c.nodes (omega arith) (omega arith))

start_known : (c : Config) (n : ℕ) → n < c.nodes → IsKnown c (below c.nodes ∷ []) n (start_node c n)
unfolding start_node nth
start_known c n h =
    record {
      within = h;
      me = refl;
      directory = refl;
      degree = refl;
      first = omega arith;
      made = omega arith;
      members = refl;
      everywhere = λ e ge le. start_everywhere c n e h ge le;
      rows = start_within c n;
    }

-- a live node at the start is one of the configuration
start_live : (c : Config) (txs : List TxDecl) (n : ℕ) → (node (start c txs) n).stopped ≡ false → IsKnown c (below c.nodes ∷ []) n (node (start c txs) n)
unfolding start
start_live c txs n live =
    elim (cases_lt n c.nodes) [
      | inl less ↦ rw (nth-map_numbers no_node (start_node c) 0 c.nodes n less) (let at : 0 + n ≡ n = omega arith in rw at (start_known c n less))
      | inr past ↦
          let none : nth no_node (map (start_node c) (below c.nodes)) n ≡ no_node = nth-past no_node (map (start_node c) (below c.nodes)) n (omega (arith, length-map_numbers (start_node c) 0 c.nodes)) in
          let stopped : (nth no_node (map (start_node c) (below c.nodes)) n).stopped ≡ true = rw none refl in
          absurd cc
    ]

-- ---- no letter was sent

no_letter : {P : Type 0} (c : Config) (txs : List TxDecl) (from to : ℕ) (l : Letter) → In l (link (start c txs).links from to) → P
unfolding start
no_letter c txs from to l i = In-nothing l (rw (nth-none_row {A = List Letter} [] c.nodes c.nodes from to) at i)

start_steady : (c : Config) (txs : List TxDecl) → IsSteady (system (start c txs))
unfolding system start
start_steady c txs =
    record {
      nodes = λ n live. start_live c txs n live;
      letters = λ l i. let on = In-to_link (start c txs).links l i in no_letter c txs on.from on.to l on.is;
    }

few_directory : (c : Config) → KeepsLimits c → length c.directory ≤ 8
few_directory c keeps =
    let within = keeps.directory_nodes in
    omega (arith, length-below 0 c.nodes c.directory keeps.rising (λ k h. within k h) (omega arith), keeps.nodes)

-- if a configuration keeps its limits, then the start of its run is a usual world
pub start_usual : (c : Config) (txs : List TxDecl) → KeepsLimits c → IsUsual (start c txs)
unfolding HasEnds start
start_usual c txs keeps =
    record { steady = start_steady c txs; ends = λ from to l i. no_letter c txs from to l i; few = few_directory c keeps }

-- the start of a run has the run's configuration
pub start-config : (c : Config) (txs : List TxDecl) → (start c txs).config ≡ c
unfolding start
start-config c txs = refl
