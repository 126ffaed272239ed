-- The merge of the journals is an order of all events, with rising clocks.
use Rattle.std.specs.Prelude.{ℕ, zero, suc, ◌≡◌, ◌≢◌, ◌+◌, ◌<◌, ◌≤◌, Bool, List, [], ◌∷◌, ◌++◌, map, if◌then◌else◌}
use Rattle.std.proofs.Common.{arith, refl, sym, ap, ◌∙◌, inl, inr, subst, append-nil, eq-eqb}
use Rattle.std.proofs.lemmas.Bool.{cases_eq, ne_eqb}
use Rattle.zeus_model.specs.In.{In, here, there}
use Rattle.zeus_model.specs.Tables.{below, numbers_from}
use Rattle.zeus_model.specs.InLaws.{In-append}
use Rattle.machine_moves.specs.SystemState.{all_of}
use Rattle.machine_moves.proofs.Lists.{In-nothing}
use Rattle.live_model.specs.Cell.{CellEvent, Entry, entry, AreClocks}
use Rattle.live_model.specs.Service.{ServiceEvent, service_entry, AreServiceClocks}
use Rattle.live_model.specs.Cluster.{Plan, Cluster, Events, IsCluster}
use Rattle.live_model.specs.Merge.{Turn, cell_turn, service_turn, entry_of, turn_clock, turn_step, clock_in, step_in, cell_turns, all_turns, turns, cell_journals, journals, merged, merge}
use Rattle.live_replay.specs.Parts.{part, of_cell, of_service, cell_part, service_part}
use Rattle.live_replay.specs.Replayed.{Rises}
use Rattle.live_replay.proofs.Merging.{part-append, Silent, silent-part, Apart, EachRises, merge-merged, merge-map}
use Rattle.live_replay.proofs.Replay.{IsOrder}

-- ---- lists of one place

In-map : {A B : Type 0} (f : A → B) (xs : List A) (y : B) → In y (map f xs) → (x : A) × In x xs × (y ≡ f x)
In-map f [] y is = In-nothing y is
In-map f (x ∷ xs) y (here _ _ e) = (x, here x xs refl, e)
In-map f (x ∷ xs) y (there _ _ is) = let h = In-map f xs y is in (h.0, there x xs h.1, h.2)

own-part : (n : ℕ) (es : List CellEvent) → cell_part n (map (cell_turn n) es) ≡ es
unfolding part of_cell
own-part n [] = refl
own-part n (e ∷ es) = rw (eq-eqb n n refl) (ap (λ (zs : List CellEvent). e ∷ zs) (own-part n es))

served-part : (es : List ServiceEvent) → service_part (map service_turn es) ≡ es
unfolding part of_service
served-part [] = refl
served-part (e ∷ es) = ap (λ (zs : List ServiceEvent). e ∷ zs) (served-part es)

other-silent : (n m : ℕ) (es : List CellEvent) → m ≢ n → Silent (of_cell n) (map (cell_turn m) es)
unfolding of_cell
other-silent n m es ne t is =
    let h = In-map (cell_turn m) es t is in rw (h.2) (ap (λ (b : Bool). if b then h.0 ∷ [] else []) (ne_eqb m n ne))

service-silent : (n : ℕ) (es : List ServiceEvent) → Silent (of_cell n) (map service_turn es)
unfolding of_cell
service-silent n es t is = let h = In-map service_turn es t is in rw (h.2) refl

cell-silent : (m : ℕ) (es : List CellEvent) → Silent of_service (map (cell_turn m) es)
unfolding of_service
cell-silent m es t is = let h = In-map (cell_turn m) es t is in rw (h.2) refl

-- ---- the lists of some nodes, and that of the service

-- the events of these nodes and of the service
abbrev pub lists : Events → ℕ → ℕ → List (List Turn)
lists es first count = cell_turns es (numbers_from first count) ++ map service_turn es.service ∷ []

above-silent : (n : ℕ) (es : Events) (first count : ℕ) → n < first → Silent (of_cell n) (all_of (lists es first count))
unfolding cell_turns numbers_from all_of
above-silent n es first zero less t is = service-silent n es.service t (rw (append-nil (map service_turn es.service)) at is)
above-silent n es first (suc count) less t is =
    elim (In-append t (map (cell_turn first) (es.cells first)) (all_of (lists es (suc first) count)) is) [
      | inl own ↦ other-silent n first (es.cells first) (λ same. absurd (omega arith)) t own
      | inr later ↦ above-silent n es (suc first) count (omega arith) t later
    ]

cells-apart : (n : ℕ) (es : Events) (first count : ℕ) → Apart (of_cell n) (lists es first count)
unfolding cell_turns numbers_from Apart all_of
cells-apart n es first zero = inl (service-silent n es.service, tt)
cells-apart n es first (suc count) =
    elim (cases_eq first n) [
      | inl same ↦ inr (above-silent n es (suc first) count (omega arith))
      | inr other ↦ inl (other-silent n first (es.cells first) other, cells-apart n es (suc first) count)
    ]

cells-found : (n : ℕ) (es : Events) (first count : ℕ) → first ≤ n → n < first + count → cell_part n (all_of (lists es first count)) ≡ es.cells n
unfolding cell_turns numbers_from all_of
cells-found n es first zero le less = absurd (omega arith)
cells-found n es first (suc count) le less =
    let rest = all_of (lists es (suc first) count) in
    part-append (of_cell n) (map (cell_turn first) (es.cells first)) rest ∙
    (elim (cases_eq first n) [
      | inl same ↦
          ap (λ (zs : List CellEvent). cell_part n (map (cell_turn first) (es.cells first)) ++ zs) (silent-part (of_cell n) rest (above-silent n es (suc first) count (omega arith)))
          ∙ (append-nil (cell_part n (map (cell_turn first) (es.cells first)))
          ∙ subst (λ (m : ℕ). cell_part n (map (cell_turn m) (es.cells m)) ≡ es.cells n) (sym same) (own-part n (es.cells n)))
      | inr other ↦
          ap (λ (zs : List CellEvent). zs ++ cell_part n rest) (silent-part (of_cell n) (map (cell_turn first) (es.cells first)) (other-silent n first (es.cells first) other))
          ∙ cells-found n es (suc first) count (omega arith) (omega arith)
    ])

service-apart : (es : Events) (first count : ℕ) → Apart of_service (lists es first count)
unfolding cell_turns numbers_from Apart all_of
service-apart es first zero = inr (λ t is. In-nothing t is)
service-apart es first (suc count) = inl (cell-silent first (es.cells first), service-apart es (suc first) count)

service-found : (es : Events) (first count : ℕ) → service_part (all_of (lists es first count)) ≡ es.service
unfolding cell_turns numbers_from all_of
service-found es first zero = ap service_part_of (append-nil (map service_turn es.service)) ∙ served-part es.service
  where
    service_part_of : List Turn → List ServiceEvent
    service_part_of ts = service_part ts
service-found es first (suc count) =
    let rest = all_of (lists es (suc first) count) in
    part-append of_service (map (cell_turn first) (es.cells first)) rest
    ∙ (ap (λ (zs : List ServiceEvent). zs ++ service_part rest) (silent-part of_service (map (cell_turn first) (es.cells first)) (cell-silent first (es.cells first)))
    ∙ service-found es (suc first) count)

place_of : Turn → ℕ → Type 0
place_of (cell_turn n e) bound = n < bound
place_of (service_turn e) bound = Unit {0}

places : (es : Events) (first count : ℕ) (t : Turn) → In t (all_of (lists es first count)) → place_of t (first + count)
unfolding cell_turns numbers_from all_of place_of
places es first zero t is =
    let h = In-map service_turn es.service t (rw (append-nil (map service_turn es.service)) at is) in
    subst (λ (u : Turn). place_of u (first + zero)) (sym h.2) tt
places es first (suc count) t is =
    elim (In-append t (map (cell_turn first) (es.cells first)) (all_of (lists es (suc first) count)) is) [
      | inl own ↦ let h = In-map (cell_turn first) (es.cells first) t own in subst (λ (u : Turn). place_of u (first + suc count)) (sym h.2) (omega arith)
      | inr later ↦ let same : suc first + count ≡ first + suc count = omega arith in subst (λ (b : ℕ). place_of t b) same (places es (suc first) count t later)
    ]

-- ---- clocks

clocks-above : (before : ℕ) (es : List CellEvent) (e : CellEvent) → AreClocks before es → In e es → before < e.clock
unfolding AreClocks
clocks-above before [] e h is = In-nothing e is
clocks-above before (x ∷ xs) e h (here _ _ same) = let is = h.0 in let clock : e.clock ≡ x.clock = ap (λ (y : CellEvent). y.clock) same in omega arith
clocks-above before (x ∷ xs) e h (there _ _ at) = let is = h.0 in let later = clocks-above x.clock xs e h.1 at in omega arith

cell-rises : (n before : ℕ) (es : List CellEvent) → AreClocks before es → Rises turn_clock (map (cell_turn n) es)
unfolding AreClocks Rises entry_of
cell-rises n before [] h = tt
cell-rises n before (e ∷ es) h = (
  λ t is. let at = In-map (cell_turn n) es t is in let less = clocks-above e.clock es at.0 h.1 at.1 in subst (λ (u : Turn). e.clock ≤ turn_clock u) (sym at.2) (omega arith),
  cell-rises n e.clock es h.1,
)

service_clocks-above : (before : ℕ) (es : List ServiceEvent) (e : ServiceEvent) → AreServiceClocks before es → In e es → before < e.clock
unfolding AreServiceClocks
service_clocks-above before [] e h is = In-nothing e is
service_clocks-above before (x ∷ xs) e h (here _ _ same) = let is = h.0 in let clock : e.clock ≡ x.clock = ap (λ (y : ServiceEvent). y.clock) same in omega arith
service_clocks-above before (x ∷ xs) e h (there _ _ at) = let is = h.0 in let later = service_clocks-above x.clock xs e h.1 at in omega arith

service-rises : (before : ℕ) (es : List ServiceEvent) → AreServiceClocks before es → Rises turn_clock (map service_turn es)
unfolding AreServiceClocks Rises entry_of
service-rises before [] h = tt
service-rises before (e ∷ es) h = (
  λ t is. let at = In-map service_turn es t is in let less = service_clocks-above e.clock es at.0 h.1 at.1 in subst (λ (u : Turn). e.clock ≤ turn_clock u) (sym at.2) (omega arith),
  service-rises e.clock es h.1,
)

each-rises : (p : Plan) (k : Cluster) (es : Events) (first count : ℕ) → IsCluster p k es → first + count ≤ p.config.nodes → EachRises turn_clock (lists es first count)
unfolding cell_turns numbers_from EachRises
each-rises p k es first zero h le = let s = h.service in (service-rises 0 es.service s.clocks, tt)
each-rises p k es first (suc count) h le =
    let cell = h.cells first (omega arith) in (cell-rises first 0 (es.cells first) cell.clocks, each-rises p k es (suc first) count h (omega arith))

-- ---- the order

place_is : (n bound : ℕ) (e : CellEvent) → place_of (cell_turn n e) bound → n < bound
unfolding place_of
place_is n bound e h = h

-- the merge of the journals of a cluster is an order of all events, with rising clocks
pub turns-order : (p : Plan) (k : Cluster) (es : Events) → IsCluster p k es → IsOrder p.config es (turns p.config es)
unfolding turns all_turns
turns-order p k es h =
    let c = p.config in
    let ls = lists es 0 c.nodes in
    record {
      cells = λ n less. let m = merge-merged (of_cell n) turn_clock ls in m.found (cells-apart n es 0 c.nodes) ∙ cells-found n es 0 c.nodes (omega arith) (omega arith);
      service = let m = merge-merged of_service turn_clock ls in m.found (service-apart es 0 c.nodes) ∙ service-found es 0 c.nodes;
      places = λ n e is. let m = merge-merged of_service turn_clock ls in
          let less : n < 0 + c.nodes = place_is n (0 + c.nodes) e (places es 0 c.nodes (cell_turn n e) (m.only (cell_turn n e) is)) in omega arith;
      rises = let m = merge-merged of_service turn_clock ls in m.rises (each-rises p k es 0 c.nodes h (omega arith));
    }

-- ---- the journals

map-map : {A B C : Type 0} (f : A → B) (g : B → C) (xs : List A) → map g (map f xs) ≡ map (λ x. g (f x)) xs
map-map f g [] = refl
map-map {C = C} f g (x ∷ xs) = ap (λ (zs : List C). g (f x) ∷ zs) (map-map f g xs)

map-append : {A B : Type 0} (f : A → B) (xs ys : List A) → map f (xs ++ ys) ≡ map f xs ++ map f ys
map-append f [] ys = refl
map-append {B = B} f (x ∷ xs) ys = ap (λ (zs : List B). f x ∷ zs) (map-append f xs ys)

cell-journal : (n : ℕ) (es : List CellEvent) → map (entry n) es ≡ map entry_of (map (cell_turn n) es)
unfolding entry_of
cell-journal n es = sym (map-map (cell_turn n) entry_of es)

service-journal : (es : List ServiceEvent) → map service_entry es ≡ map entry_of (map service_turn es)
unfolding entry_of
service-journal es = sym (map-map service_turn entry_of es)

cell_journals-turns : (p : Plan) (k : Cluster) (es : Events) (first count : ℕ) → IsCluster p k es → first + count ≤ p.config.nodes
    → cell_journals k (numbers_from first count) ≡ map (map entry_of) (cell_turns es (numbers_from first count))
unfolding cell_journals cell_turns numbers_from
cell_journals-turns p k es first zero h le = refl
cell_journals-turns p k es first (suc count) h le =
    let cell = h.cells first (omega arith) in
    let own : (k.cells first).journal ≡ map entry_of (map (cell_turn first) (es.cells first)) = cell.journal ∙ cell-journal first (es.cells first) in
    rw (own, cell_journals-turns p k es (suc first) count h (omega arith)) refl

journals-turns : (p : Plan) (k : Cluster) (es : Events) → IsCluster p k es → journals p.config k ≡ map (map entry_of) (all_turns p.config es)
unfolding journals all_turns
journals-turns p k es h =
    let s = h.service in
    let own : k.service.journal ≡ map entry_of (map service_turn es.service) = s.journal ∙ service-journal es.service in
    ap (λ (js : List (List Entry)). js ++ k.service.journal ∷ []) (cell_journals-turns p k es 0 p.config.nodes h (omega arith))
    ∙ (ap (λ (j : List Entry). map (map entry_of) (cell_turns es (below p.config.nodes)) ++ j ∷ []) own
    ∙ sym (map-append (map entry_of) (cell_turns es (below p.config.nodes)) (map service_turn es.service ∷ [])))

steps-turns : (ts : List Turn) → map step_in (map entry_of ts) ≡ map turn_step ts
unfolding step_in
steps-turns ts = map-map entry_of step_in ts

-- the steps of the merged journals are those of the merged events
pub merged-turns : (p : Plan) (k : Cluster) (es : Events) → IsCluster p k es → merged p.config k ≡ map turn_step (turns p.config es)
unfolding merged turns clock_in
merged-turns p k es h =
    ap (λ (ls : List (List Entry)). map step_in (merge clock_in ls)) (journals-turns p k es h)
    ∙ (ap (λ (zs : List Entry). map step_in zs) (merge-map clock_in entry_of (all_turns p.config es)) ∙ steps-turns (merge turn_clock (all_turns p.config es)))
