-- How many steps the merged journals have at most.
use Rattle.std.specs.Prelude.{ℕ, zero, suc, ◌≡◌, ◌+◌, ◌*◌, ◌<◌, ◌≤◌, Bool, true, false, ◌&&◌, ◌==◌, List, [], ◌∷◌, ◌++◌, length, map, Option, if◌then◌else◌}
use Rattle.std.proofs.Common.{arith, refl, ap, ◌∙◌, inl, inr, subst, length-append, append-nil, eq-eqb}
use Rattle.std.proofs.lemmas.Bool.{cases_eq}
use Rattle.std.proofs.lemmas.List.{length-map}
use Rattle.zeus_base.specs.declared.config.Config.{Config}
use Rattle.zeus_base.specs.declared.step.Step.{Step}
use Rattle.zeus_model.specs.Tables.{numbers_from}
use Rattle.machine_moves.specs.SystemState.{all_of}
use Rattle.live_model.specs.Items.{travels}
use Rattle.live_model.specs.Cell.{CellEvent, Kill, is_halt, IsEmpty, HaltsOnly, halt_of, halts}
use Rattle.live_model.specs.Service.{ServiceEvent, HaltsFit, halts_taken}
use Rattle.live_model.specs.Cluster.{Plan, Cluster, Events, IsCluster, IsFront}
use Rattle.live_model.specs.Merge.{Turn, cell_turn, service_turn, turn_clock, turn_step, cell_turns, all_turns, turns, merged}
use Rattle.live_replay.specs.Parts.{of_service}
use Rattle.live_replay.specs.Replayed.{IsLive}
use Rattle.live_replay.proofs.Merging.{merge-merged}
use Rattle.live_replay.proofs.Orders.{merged-turns, lists}

-- ---- a cell tells of one stop at most

halt_of-most : (b : Bool) (c : ℕ) → length (if b then c ∷ [] else []) ≤ 1
halt_of-most true c = omega arith
halt_of-most false c = omega arith

no_events : (es : List CellEvent) → IsEmpty es → halts es ≡ []
unfolding halts IsEmpty
no_events [] h = refl
no_events (e ∷ es) h = absurd h

halts-most_at : (b : Bool) (e : CellEvent) (es : List CellEvent) → is_halt e.deed ≡ b → (b ≡ true → IsEmpty es) → length (halts es) ≤ 1 → length (halt_of e ++ halts es) ≤ 1
unfolding halt_of
halts-most_at true e es is empty most =
    let none = no_events es (empty refl) in
    let a = halt_of-most (is_halt e.deed && travels e.clock) e.clock in
    rw (none, append-nil (if is_halt e.deed && travels e.clock then e.clock ∷ [] else [])) a
halts-most_at false e es is empty most = rw is most

halts-most : (kill : Option Kill) (me place : ℕ) (es : List CellEvent) → HaltsOnly kill me place es → length (halts es) ≤ 1
unfolding halts HaltsOnly
halts-most kill me place [] h = omega arith
halts-most kill me place (e ∷ es) h = halts-most_at (is_halt e.deed) e es refl h.1 (halts-most kill me (suc place) es h.2)

front-most : {A : Type 0} (xs ys : List A) → IsFront xs ys → length xs ≤ length ys
front-most xs ys f = let all = ap length_of f.is in let sum = length-append xs f.rest in omega arith
  where
    length_of : {A : Type 0} → List A → ℕ
    length_of zs = length zs

-- ---- the service takes each stop once

-- the stops taken from some nodes
taken_among : ℕ → ℕ → List ServiceEvent → ℕ
taken_among first zero es = 0
taken_among first (suc count) es = length (halts_taken first es) + taken_among (suc first) count es

taken-none : (first count : ℕ) → taken_among first count [] ≡ 0
unfolding taken_among halts_taken
taken-none first zero = refl
taken-none first (suc count) = let rest = taken-none (suc first) count in omega arith

taken-other : (n : ℕ) (e : ServiceEvent) (es : List ServiceEvent) → length (halts_taken n es) ≤ length (halts_taken n (e ∷ es))
unfolding halts_taken
taken-other n e es = more (e.node == n) e.halt (halts_taken n es)
  where
    more : (b : Bool) (h : ℕ) (hs : List ℕ) → length hs ≤ length (if b then h ∷ hs else hs)
    more true h hs = omega arith
    more false h hs = omega arith

taken-own : (e : ServiceEvent) (es : List ServiceEvent) → length (halts_taken e.node (e ∷ es)) ≡ suc (length (halts_taken e.node es))
unfolding halts_taken
taken-own e es = rw (eq-eqb e.node e.node refl) refl

taken-falls : (first count : ℕ) (e : ServiceEvent) (es : List ServiceEvent) → taken_among first count es ≤ taken_among first count (e ∷ es)
unfolding taken_among
taken-falls first zero e es = omega arith
taken-falls first (suc count) e es = let a = taken-other first e es in let b = taken-falls (suc first) count e es in omega arith

taken-more : (first count : ℕ) (e : ServiceEvent) (es : List ServiceEvent) → first ≤ e.node → e.node < first + count → suc (taken_among first count es) ≤ taken_among first count (e ∷ es)
unfolding taken_among
taken-more first zero e es le less = absurd (omega arith)
taken-more first (suc count) e es le less =
    elim (cases_eq e.node first) [
      | inl same ↦
          let own : length (halts_taken first (e ∷ es)) ≡ suc (length (halts_taken first es)) = subst (λ (n : ℕ). length (halts_taken n (e ∷ es)) ≡ suc (length (halts_taken n es))) same (taken-own e es) in
          let rest = taken-falls (suc first) count e es in omega arith
      | inr other ↦ let a = taken-other first e es in let rest = taken-more (suc first) count e es (omega arith) (omega arith) in omega arith
    ]

all-taken : (c : Config) (es : List ServiceEvent) → HaltsFit c es → length es ≤ taken_among 0 c.nodes es
unfolding HaltsFit
all-taken c [] h = omega arith
all-taken c (e ∷ es) h = let rest = all-taken c es h.1 in let one = taken-more 0 c.nodes e es (omega arith) (let less = h.0 in omega arith) in omega arith

each-taken : (p : Plan) (k : Cluster) (es : Events) (first count : ℕ) → IsCluster p k es → first + count ≤ p.config.nodes → taken_among first count es.service ≤ count
unfolding taken_among
each-taken p k es first zero h le = omega arith
each-taken p k es first (suc count) h le =
    let there : first < p.config.nodes = omega arith in
    let cell = h.cells first there in
    let service = h.service in
    let meets = h.meets in
    let a = front-most (k.service.halts first) (k.cells first).halts (meets.halts first there) in
    let b : length (k.service.halts first) ≡ length (halts_taken first es.service) = ap (λ (hs : List ℕ). length hs) (service.halts first) in
    let c : length (k.cells first).halts ≡ length (halts (es.cells first)) = ap (λ (hs : List ℕ). length hs) cell.halts in
    let d = halts-most p.kill first 0 (es.cells first) cell.halting in
    let rest = each-taken p k es (suc first) count h (omega arith) in
    omega arith

service-few : (p : Plan) (k : Cluster) (es : Events) → IsCluster p k es → length es.service ≤ p.config.nodes
service-few p k es h =
    let service = h.service in
    let a = all-taken p.config es.service service.fit in
    let b = each-taken p k es 0 p.config.nodes h (omega arith) in
    omega arith

-- ---- all events

lists-few : (p : Plan) (k : Cluster) (es : Events) (first count : ℕ) → IsCluster p k es → first + count ≤ p.config.nodes → length (all_of (lists es first count)) ≤ count * 5000000 + length es.service
unfolding cell_turns numbers_from all_of
lists-few p k es first zero h le =
    let a : length (map service_turn es.service ++ []) ≡ length (map service_turn es.service) = ap (λ (ts : List Turn). length ts) (append-nil (map service_turn es.service)) in
    let b : length (map service_turn es.service) ≡ length es.service = length-map es.service service_turn in
    omega arith
lists-few p k es first (suc count) h le =
    let cell = h.cells first (omega arith) in
    let few = cell.few in
    let own : length (map (cell_turn first) (es.cells first)) ≡ length (es.cells first) = length-map (es.cells first) (cell_turn first) in
    let rest = lists-few p k es (suc first) count h (omega arith) in
    let sum = length-append (map (cell_turn first) (es.cells first)) (all_of (lists es (suc first) count)) in
    omega arith

-- the merged journals have at most 5,000,000 steps for each node, and one for each node that stopped
pub merged-few : (p : Plan) (k : Cluster) (es : Events) → IsLive p k es → length (merged p.config k) ≤ 40000100
unfolding turns all_turns
merged-few p k es h =
    let ts = turns p.config es in
    let cluster = h.cluster in
    let limits = h.limits in
    let nodes = limits.nodes in
    let steps : length (merged p.config k) ≡ length ts = ap (λ (ss : List Step). length ss) (merged-turns p k es cluster) ∙ length-map ts turn_step in
    let m = merge-merged of_service turn_clock (lists es 0 p.config.nodes) in
    let count = m.count in
    let most = lists-few p k es 0 p.config.nodes cluster (omega arith) in
    let served = service-few p k es cluster in
    omega arith
