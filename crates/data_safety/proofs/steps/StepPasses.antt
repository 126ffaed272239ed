-- Passes as moves of a run, in the order in which the book takes them.
use Rattle.std.specs.Prelude.{ℕ, zero, suc, ◌≡◌, ◌≢◌, ◌-◌, ◌≤◌, true, false, ◌==◌, List, [], ◌∷◌}
use Rattle.std.proofs.Common.{arith, refl, sym, ◌∙◌, subst, eq-eqb}
use Rattle.std.proofs.lemmas.Bool.{ne_eqb}
use Rattle.zeus_base.specs.Nodes.{has}
use Rattle.zeus_base.specs.declared.order.Stream.{Stream}
use Rattle.zeus_base.specs.declared.step.Passed.{Passed}
use Rattle.zeus_model.specs.In.{In, here, there}
use Rattle.zeus_model.specs.Tables.{front, numbers_from}
use Rattle.zeus_model.specs.State.{Node, slot, log}
use Rattle.zeus_model.specs.Book.{Book, tx_of, pass_tx, pass_numbers, book_passes}
use Rattle.zeus_model.specs.Commit.{no_kept, passes, pass_own, pass_kept}
use Rattle.machine_moves.specs.Move.{own_kept, passes_own, passes_kept}
use Rattle.machine_moves.proofs.Within.{Keeps-pass_own, Keeps-pass_kept}
use Rattle.machine_moves.proofs.Reach.{IsReady, known}
use Rattle.machine_moves.proofs.Passing.{front-parts, own_front, own_kept-length, pass_own-slot, pass_own-more, pass_kept-log, pass_kept-more, kept_front, outsider_other}
use Rattle.data_safety.specs.RunState.{RunState}
use Rattle.data_safety.specs.RunMoves.{passes_own_tx, passes_kept_tx}
use Rattle.data_safety.proofs.steps.StepReach.{told_as, Arrives, still_arrives, quiet_arrives, then_arrives}
use Rattle.data_safety.proofs.passes.OrderAdvance.{advanced, all_advanced, advanced-own, advanced-kept}
use Rattle.data_safety.proofs.passes.OrderSorted.{Apart}
use Rattle.data_safety.proofs.passes.OrderTurns.{IsDue, own_due, kept_due, IsDue-later}

-- ---- an own stream

own_once : (y : RunState) (n i : ℕ) → IsReady y.system n → 1 ≤ front (passes (y.system.node n)) (own_kept (y.system.node n) i)
    → Arrives y n (pass_own (y.system.node n) i 1) [] (pass_tx y.book true (tx_of y.book record { node = n; slot = i } (slot (y.system.node n) i).done)).book
own_once y n i ready h =
    let m = y.system.node n in
    let first = front-parts (passes m) no_kept (own_kept m i) 0 h in
    let some = rw (own_kept-length m i) at first.0 in
    quiet_arrives y n (pass_own m i 1) _ ready.live (Keeps-pass_own m i 1) (λ ch. passes_own n i some first.1 ch) (λ ch. passes_own_tx n i some first.1 ch refl refl)

-- what it is that so many first entries pass
abbrev OwnPassed : RunState → ℕ → ℕ → ℕ → Node → Type 0
OwnPassed y n i c m = Arrives y n (pass_own m i c) [] (pass_numbers y.book true record { node = n; slot = i } (numbers_from (slot m i).done c)).book

own_some : (c : ℕ) (y : RunState) (n i : ℕ) → IsReady y.system n → suc c ≤ front (passes (y.system.node n)) (own_kept (y.system.node n) i) → OwnPassed y n i (suc c) (y.system.node n)
unfolding pass_numbers numbers_from
own_some zero y n i ready h = own_once y n i ready h
own_some (suc c) y n i ready h =
    let m = y.system.node n in
    let t : Stream = record { node = n; slot = i } in
    let middle : Book = (pass_tx y.book true (tx_of y.book t (slot m i).done)).book in
    let next : (slot (pass_own m i 1) i).done ≡ suc (slot m i).done = rw (pass_own-slot m i 1) (omega arith) in
    then_arrives y n (pass_own m i 1) (pass_own m i (suc (suc c))) [] [] middle (pass_numbers middle true t (numbers_from (suc (slot m i).done) (suc c))).book ready (own_once y n i ready (omega arith))
    (λ s rs b.
    let z = told_as y s middle in
    let rest : OwnPassed z n i (suc c) (pass_own m i 1) = subst (λ (x : Node). suc c ≤ front (passes x) (own_kept x i) → OwnPassed z n i (suc c) x) b.node (own_some c z n i rs) (own_front m i c h) in
    rw (← pass_own-more m i (suc c)) (subst (λ (d : ℕ). Arrives z n (pass_own (pass_own m i 1) i (suc c)) [] (pass_numbers middle true t (numbers_from d (suc c))).book) next rest))

-- ---- a stored stream

kept_once : (y : RunState) (n : ℕ) (t : Stream) → IsReady y.system n → has t.node (y.system.node n).members ≡ false → 1 ≤ front (passes (y.system.node n)) (log (y.system.node n) t).kept
    → Arrives y n (pass_kept (y.system.node n) t 1) [] (pass_tx y.book false (tx_of y.book t (log (y.system.node n) t).done)).book
kept_once y n t ready out h =
    let m = y.system.node n in
    let first = front-parts (passes m) no_kept (log m t).kept 0 h in
    let other = outsider_other y.system n t.node ready out in
    quiet_arrives y n (pass_kept m t 1) _ ready.live (Keeps-pass_kept m t 1) (λ ch. passes_kept n t out other first.0 first.1 ch) (λ ch. passes_kept_tx n t out other first.0 first.1 ch refl refl)

abbrev KeptPassed : RunState → ℕ → Stream → ℕ → Node → Type 0
KeptPassed y n t c m = Arrives y n (pass_kept m t c) [] (pass_numbers y.book false t (numbers_from (log m t).done c)).book

kept_some : (c : ℕ) (y : RunState) (n : ℕ) (t : Stream) → IsReady y.system n → has t.node (y.system.node n).members ≡ false → suc c ≤ front (passes (y.system.node n)) (log (y.system.node n) t).kept → KeptPassed y n t (suc c) (y.system.node n)
unfolding pass_numbers numbers_from
kept_some zero y n t ready out h = kept_once y n t ready out h
kept_some (suc c) y n t ready out h =
    let m = y.system.node n in
    let middle : Book = (pass_tx y.book false (tx_of y.book t (log m t).done)).book in
    let next : (log (pass_kept m t 1) t).done ≡ suc (log m t).done = rw (pass_kept-log m t 1) (omega arith) in
    then_arrives y n (pass_kept m t 1) (pass_kept m t (suc (suc c))) [] [] middle (pass_numbers middle false t (numbers_from (suc (log m t).done) (suc c))).book ready (kept_once y n t ready out (omega arith))
    (λ s rs b.
    let z = told_as y s middle in
    let rest : KeptPassed z n t (suc c) (pass_kept m t 1) = subst (λ (x : Node). has t.node x.members ≡ false → suc c ≤ front (passes x) (log x t).kept → KeptPassed z n t (suc c) x) b.node (kept_some c z n t rs) out (kept_front m t c h) in
    rw (← pass_kept-more m t (suc c)) (subst (λ (d : ℕ). Arrives z n (pass_kept (pass_kept m t 1) t (suc c)) [] (pass_numbers middle false t (numbers_from d (suc c))).book) next rest))

-- ---- passes of different streams

-- the passes of one stream
abbrev Passes : RunState → ℕ → Passed → Node → Type 0
Passes y n p after = Arrives y n after [] (pass_numbers y.book (p.stream.node == n) p.stream (numbers_from p.first (p.after - p.first))).book

own_passes_as : (y : RunState) (n c : ℕ) (p : Passed) → p.stream.node ≡ n → p.first ≡ (slot (y.system.node n) p.stream.slot).done → p.after - p.first ≡ suc c → OwnPassed y n p.stream.slot (suc c) (y.system.node n) → Passes y n p (pass_own (y.system.node n) p.stream.slot (p.after - p.first))
own_passes_as y n c p own first span r =
    rw (span, eq-eqb p.stream.node n own, first)
    (subst (λ (k : ℕ). Arrives y n (pass_own (y.system.node n) p.stream.slot (suc c)) [] (pass_numbers y.book true record { node = k; slot = p.stream.slot } (numbers_from (slot (y.system.node n) p.stream.slot).done (suc c))).book) (sym own) r)

kept_passes_as : (y : RunState) (n c : ℕ) (p : Passed) → p.stream.node ≢ n → p.first ≡ (log (y.system.node n) p.stream).done → p.after - p.first ≡ suc c → KeptPassed y n p.stream (suc c) (y.system.node n) → Passes y n p (pass_kept (y.system.node n) p.stream (p.after - p.first))
kept_passes_as y n c p other first span r = rw (span, ne_eqb p.stream.node n other, first) r

pass_arrives : (y : RunState) (n : ℕ) (p : Passed) → IsReady y.system n → IsDue (y.system.node n) p → Passes y n p (advanced (y.system.node n) p)
pass_arrives y n p ready (own_due c own first after passing) =
    let k = known y.system n ready in
    rw (advanced-own (y.system.node n) p own)
    (own_passes_as y n c p (own ∙ k.me) first (omega (arith, first, after)) (own_some c y n p.stream.slot ready passing))
pass_arrives y n p ready (kept_due c other out first after passing) =
    rw (advanced-kept (y.system.node n) p other)
    (kept_passes_as y n c p (outsider_other y.system n p.stream.node ready out) first (omega (arith, first, after)) (kept_some c y n p.stream ready out passing))

-- passes of different streams, each of which can be made, are moves
pub passes_arrive : (ps : List Passed) (y : RunState) (n : ℕ) → IsReady y.system n → Apart ps → ((p : Passed) → In p ps → IsDue (y.system.node n) p) → Arrives y n (all_advanced (y.system.node n) ps) [] (book_passes y.book n ps).book
unfolding book_passes all_advanced Apart
passes_arrive [] y n ready apart due = still_arrives y n
passes_arrive (p ∷ ps) y n ready apart due =
    let m = y.system.node n in
    let middle : Book = (pass_numbers y.book (p.stream.node == n) p.stream (numbers_from p.first (p.after - p.first))).book in
    then_arrives y n (advanced m p) (all_advanced (advanced m p) ps) [] [] middle (book_passes middle n ps).book ready (pass_arrives y n p ready (due p (here p ps refl)))
    (λ s rs b.
    let z = told_as y s middle in
    subst (λ (x : Node). ((q : Passed) → In q ps → IsDue x q) → Arrives z n (all_advanced x ps) [] (book_passes middle n ps).book) b.node
    (passes_arrive ps z n rs apart.1)
    (λ q i. IsDue-later m p q (apart.0 q i) (due q (there p ps i))))
