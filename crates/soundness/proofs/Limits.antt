-- What the limits of a configuration and its transactions give over whole runs.
use Rattle.std.specs.Prelude.{ℕ, zero, suc, ◌≡◌, ◌<◌, ◌==◌, Bool, true, false, List, [], ◌∷◌, ◌++◌, length, Option, Some, None, All, ◌⊎◌, nat_lt}
use Rattle.std.proofs.Common.{arith, refl, inl, inr, ◌∙◌}
use Rattle.std.proofs.lemmas.Bool.{cases_Bool, cases_lt}
use Rattle.std.proofs.lemmas.Bool.Decides.{nat_tests}
use Rattle.std.proofs.lemmas.List.Elements.{All-head, All-tail}
use Rattle.zeus_base.specs.TableLaws.{length-put, nth-past}
use Rattle.zeus_base.specs.declared.config.Config.{Config}
use Rattle.zeus_base.specs.declared.step.Step.{Step}
use Rattle.zeus_base.specs.declared.step.Step.TheVariants.{Begin, Try, Deliver, Tick, Stop, View, Install}
use Rattle.zeus_packet.specs.declared.letter.Letter.{Letter}
use Rattle.zeus_txn.specs.Ops.{object_of, mentions, mentioned, named, named_after}
use Rattle.zeus_txn.specs.declared.ops.Op.{Op}
use Rattle.zeus_txn.specs.declared.tx.TxDecl.{TxDecl}
use Rattle.zeus_model.specs.Scripts.{FitTxs, FitsOp}
use Rattle.zeus_model.specs.Tables.{nth, put, or_else, where_true}
use Rattle.zeus_model.specs.State.{Node}
use Rattle.zeus_model.specs.World.{World, no_node, no_tx, node, tx_decl, start, start_node, stepped, happens, step_begin, begin_or_not, begin_refused, tried_at, deliver_or_not, received_at, ticked_at, stopped_at, installed_at, step_install, view_or_not, view_refused, nth_letter, link}
use Rattle.zeus_model.specs.declared.answer.Answer.{Answer}
use Rattle.zeus_model.specs.declared.answer.Made.{Made}
use Rattle.machine_moves.specs.Fits.{StepFits}
use Rattle.machine_moves.proofs.Lists.{length-map_numbers}
use Rattle.data_safety.proofs.Beginning.{NamesDeclared}

-- ---- transactions name declared objects

mentions-last : (x : ℕ) (seen : List ℕ) (y : ℕ) → mentions x (seen ++ y ∷ []) ≡ true → (mentions x seen ≡ true) ⊎ (x ≡ y)
unfolding mentions
mentions-last x [] y h = let same : x ≡ y = grind (arith, nat_tests) in inr same
mentions-last x (z ∷ seen) y h = elim (cases_Bool (x == z)) [
  | inl same ↦ inl (rw same refl)
  | inr other ↦ elim (mentions-last x seen y (rw other at h)) [ inl before ↦ inl (rw other before) | inr now ↦ inr now ]
]

mentioned-from : (x : ℕ) (seen : List ℕ) (y : ℕ) → mentions x (mentioned seen y) ≡ true → (mentions x seen ≡ true) ⊎ (x ≡ y)
unfolding mentioned
mentioned-from x seen y h = elim (cases_Bool (mentions y seen)) [
  | inl known ↦ inl (rw known at h)
  | inr fresh ↦ mentions-last x seen y (rw fresh at h)
]

nothing_mentioned : (y : ℕ) → mentions y [] ≡ true → ⊥
unfolding mentions
nothing_mentioned y m = cc

named-declared : (c : Config) (ops : List Op) (seen : List ℕ) (x : ℕ) → All (FitsOp c) ops → ((y : ℕ) → mentions y seen ≡ true → y < length c.objects)
    → mentions x (named_after seen ops) ≡ true → x < length c.objects
unfolding named_after
named-declared c [] seen x fits known h = known x h
named-declared c (op ∷ ops) seen x fits known h =
    named-declared c ops (mentioned seen (object_of op)) x (All-tail (FitsOp c) op ops fits)
    (λ y m. elim (mentioned-from y seen (object_of op) m) [
      | inl before ↦ known y before
      | inr now ↦ let is : object_of op < length c.objects = (All-head (FitsOp c) op ops fits).object in omega arith
    ]) h

tx-declared : (c : Config) (k : ℕ) (txs : List TxDecl) (id x : ℕ) → FitTxs c k txs → mentions x (named (nth no_tx txs id).tx) ≡ true → x < length c.objects
unfolding nth FitTxs named named_after
tx-declared c k [] id x fits h = absurd (nothing_mentioned x h)
tx-declared c k (t ∷ ts) zero x fits h = named-declared c t.tx [] x fits.0.ops (λ y m. absurd (nothing_mentioned y m)) h
tx-declared c k (t ∷ ts) (suc id) x fits h = tx-declared c (suc k) ts id x fits.1 h

-- if transactions fit, then they name declared objects
pub names-declared : (c : Config) (txs : List TxDecl) → FitTxs c 0 txs → NamesDeclared c txs
names-declared c txs fits = λ id x h. tx-declared c 0 txs id x fits h

-- ---- there are as many nodes as the configuration says

-- at the start there are as many nodes as configured
pub start-counts : (c : Config) (txs : List TxDecl) → length (start c txs).nodes ≡ (start c txs).config.nodes
unfolding start
start-counts c txs = length-map_numbers (start_node c) 0 c.nodes

put-counts : (w : World) (n : ℕ) (after : Node) → length w.nodes ≡ w.config.nodes → n < w.config.nodes
    → length (put no_node w.nodes n after) ≡ w.config.nodes
put-counts w n after h within = length-put no_node w.nodes n after (omega arith) ∙ h

-- a node that runs is one of the configuration's
running-within : (w : World) (n : ℕ) → length w.nodes ≡ w.config.nodes → (node w n).stopped ≡ false → n < w.config.nodes
running-within w n h live = elim (cases_lt n w.config.nodes) [
  | inl within ↦ within
  | inr past ↦ let none : no_node.stopped ≡ false = rw (nth-past no_node w.nodes n (omega (arith, h))) at live in cc
]

or_else-none : {A : Type 0} (a b : Option A) → or_else a b ≡ None → (a ≡ None) × (b ≡ None)
unfolding or_else
or_else-none None b h = (refl, h)
or_else-none (Some a) b h = cc

where-none : {A : Type 0} (b : Bool) (a : A) → where_true b a ≡ None → b ≡ false
unfolding where_true
where-none true a h = cc
where-none false a h = refl

begin-counts : (w : World) (k : ℕ) (o : Option Answer) → begin_refused w k ≡ o → length w.nodes ≡ w.config.nodes
    → length (begin_or_not w k o).world.nodes ≡ (begin_or_not w k o).world.config.nodes
unfolding begin_or_not begin_refused
begin-counts w k (Some a) is h = h
begin-counts w k None is h =
    let live = where-none (node w (tx_decl w k).node).stopped _ (or_else-none _ _ (or_else-none _ _ is).1).0 in
    put-counts w (tx_decl w k).node _ h (running-within w (tx_decl w k).node h live)

deliver-counts : (w : World) (from to : ℕ) (o : Option Letter) → length w.nodes ≡ w.config.nodes → to < w.config.nodes
    → length (deliver_or_not w from to o).world.nodes ≡ (deliver_or_not w from to o).world.config.nodes
unfolding deliver_or_not received_at
deliver-counts w from to None h within = h
deliver-counts w from to (Some l) h within = put-counts w to _ h within

view-counts : (w : World) (set : List ℕ) (o : Option Made) → length w.nodes ≡ w.config.nodes
    → length (view_or_not w set o).world.nodes ≡ (view_or_not w set o).world.config.nodes
unfolding view_or_not
view-counts w set (Some m) h = h
view-counts w set None h = h

install-counts : (w : World) (n e : ℕ) → length w.nodes ≡ w.config.nodes → n < w.config.nodes
    → length (step_install w n e).world.nodes ≡ (step_install w n e).world.config.nodes
unfolding step_install installed_at
install-counts w n e h within = elim (cases_Bool (nat_lt (length w.views) e)) [
  | inl past ↦ rw past h
  | inr known ↦ rw known (put-counts w n _ h within)
]

-- if there are as many nodes as configured, then there are so after a step that fits
pub step-counts : (w : World) (txs : List TxDecl) (s : Step) → length w.nodes ≡ w.config.nodes → StepFits w.config txs s → length (stepped w s).nodes ≡ (stepped w s).config.nodes
unfolding happens StepFits tried_at ticked_at stopped_at step_begin
step-counts w txs (Begin k) h fits = begin-counts w k (begin_refused w k) refl h
step-counts w txs (Try n s) h fits = put-counts w n _ h fits.0
step-counts w txs (Deliver from to i) h fits = deliver-counts w from to (nth_letter (link w.links from to) i) h fits.1
step-counts w txs (Tick n) h fits = put-counts w n _ h fits
step-counts w txs (Stop n) h fits = put-counts w n _ h fits
step-counts w txs (View set) h fits = view-counts w set (view_refused w set) h
step-counts w txs (Install n e) h fits = install-counts w n e h fits.0
