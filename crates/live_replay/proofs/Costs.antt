-- How many steps a drive makes at most: some for each round, one for each transaction that is begun, and the stop.
use Rattle.std.specs.Prelude.{◌==◌, ℕ, zero, suc, ◌≡◌, ◌+◌, ◌*◌, ◌<◌, ◌≤◌, Bool, true, false, ◌&&◌, not, nat_lt, List, [], ◌∷◌, ◌++◌, length, Option, Some, None, is_some, if◌then◌else◌}
use Rattle.std.proofs.Common.{arith, refl, sym, ap, inl, inr, subst, length-append, eq-eqb}
use Rattle.std.proofs.Math.Nat.{suc-mul, mul-one, mul-le-mul}
use Rattle.std.proofs.lemmas.Bool.{cond_both, cases_Bool, eqb-true, ltb-true, ltb-false, false_from_ne_true}
use Rattle.zeus_base.specs.declared.config.Config.{Config}
use Rattle.zeus_base.specs.declared.step.Step.{Step}
use Rattle.zeus_base.specs.declared.step.Step.TheVariants.{Begin, Try, Tick, View, Install}
use Rattle.zeus_txn.specs.declared.tx.TxDecl.{TxDecl}
use Rattle.zeus_model.specs.State.{slot}
use Rattle.zeus_model.specs.Tables.{below, numbers_from}
use Rattle.zeus_model.specs.Readers.{is_live, live_among, all_closed}
use Rattle.zeus_model.specs.World.{node, link, last_view, stepped, run, start}
use Rattle.live_model.specs.Cell.{Kill}
use Rattle.live_model.specs.Cluster.{Plan}
use Rattle.live_model.specs.Drive.{Going, is_step_of, is_due, stop_of, counts_as, or_stop, stepped_by, offer, offer_where, each_number, view_item, install_item, can_begin, begin_item, try_item, tries_of, next_of, with_next, next_after, delivery, delivery_item, deliveries_between, deliveries_from, tick_item, all_nodes, views_and_installs, begins_and_tries, round, rounds_of, count_of, drive_start, drive}
use Rattle.live_replay.specs.LiveRun.{IsLiveRun, per_round, driven}
use Rattle.live_replay.proofs.Begun.{step-stays, can_begin-begins, unbegun, unbegun-falls, unbegun-one, unbegun-most}
use Rattle.live_replay.proofs.Driving.{IsGoing, IsWithin, going-known, both_parts, view_item-going, install_item-going, begin_item-going, try_item-going, tries_of-going, delivery_item-going, deliveries_between-going, deliveries_from-going, tick_item-going, views_and_installs-going, begins_and_tries-going, round-going, nodes_of, all_below, start-going}

-- the stop that may still come
unfoldable pub stop_left : Option Kill → ℕ → ℕ
stop_left None count = 0
stop_left (Some k) count = if nat_lt k.event count then 0 else 1

-- the steps made, and those that begins and the stop may still add
abbrev pub cost : Plan → Going → ℕ
cost p g = length g.steps + unbegun g.world.book (below (length p.txs)) + stop_left p.kill g.count

below_test : (a b : ℕ) → a < b → nat_lt a b ≡ true
below_test a b h = elim (cases_Bool (nat_lt a b)) [ inl less ↦ less | inr more ↦ let g : b ≤ a = ltb-false a b more in absurd (omega arith) ]

stop_left-falls : (kill : Option Kill) (count more : ℕ) → stop_left kill (count + more) ≤ stop_left kill count
unfolding stop_left
stop_left-falls None count more = omega arith
stop_left-falls (Some k) count more = falls (nat_lt k.event count) (nat_lt k.event (count + more)) (λ less. later k.event count more less)
  where
    falls : (a b : Bool) → (a ≡ true → b ≡ true) → (if b then 0 else 1) ≤ (if a then 0 else 1)
    falls true b h = rw (h refl) (omega arith)
    falls false true h = omega arith
    falls false false h = omega arith

    later : (e c m : ℕ) → nat_lt e c ≡ true → nat_lt e (c + m) ≡ true
    later e c m less = let h : e < c = ltb-true e c less in below_test e (c + m) (omega arith)

stop_left-most : (kill : Option Kill) (count : ℕ) → stop_left kill count ≤ 1
unfolding stop_left
stop_left-most None count = omega arith
stop_left-most (Some k) count = most (nat_lt k.event count)
  where
    most : (a : Bool) → (if a then 0 else 1) ≤ 1
    most true = omega arith
    most false = omega arith

-- ---- a step

-- any step costs one at most
step-cost : (p : Plan) (g : Going) (s : Step) (more : ℕ) → length (g.steps ++ s ∷ []) + unbegun (stepped g.world s).book (below (length p.txs)) + stop_left p.kill (g.count + more) ≤ cost p g + 1
step-cost p g s more =
    let a : length (g.steps ++ s ∷ []) ≡ length g.steps + 1 = length-append g.steps (s ∷ []) in
    let b = unbegun-falls (below (length p.txs)) g.world.book (stepped g.world s).book (step-stays s g.world) in
    let c = stop_left-falls p.kill g.count more in
    omega arith

-- a begin that is answered so costs nothing
begin-cost : (p : Plan) (g : Going) (k more : ℕ) → k < length p.txs → can_begin g.world k ≡ true
    → length (g.steps ++ Begin k ∷ []) + unbegun (stepped g.world (Begin k)).book (below (length p.txs)) + stop_left p.kill (g.count + more) ≤ cost p g
begin-cost p g k more less can =
    let a : length (g.steps ++ Begin k ∷ []) ≡ length g.steps + 1 = length-append g.steps (Begin k ∷ []) in
    let h = can_begin-begins g.world k can in
    let b = unbegun-one 0 (length p.txs) k g.world.book (stepped g.world (Begin k)).book (step-stays (Begin k) g.world) (omega arith) (omega arith) h.0 h.1 in
    let c = stop_left-falls p.kill g.count more in
    omega arith

-- the stop costs nothing either
due-left : (kill : Option Kill) (txs : List TxDecl) (count : ℕ) (s : Step) → is_due kill txs count s ≡ true → suc (stop_left kill (count + counts_as kill txs (stop_of kill s))) ≤ stop_left kill count
unfolding is_due stop_left counts_as stop_of is_step_of
due-left None txs count s due = absurd cc
due-left (Some k) txs count s due =
    let parts = both_parts (is_step_of txs k.node s) (count == k.event) due in
    let at : count ≡ k.event = eqb-true count k.event parts.1 in
    let now : nat_lt k.event count ≡ false = false_from_ne_true (nat_lt k.event count) (λ less. let h : k.event < count = ltb-true k.event count less in absurd (omega arith)) in
    rw (now, eq-eqb k.node k.node refl) (then-none k.event count at)
  where
    then-none : (e c : ℕ) → c ≡ e → suc (if nat_lt e (c + 1) then 0 else 1) ≤ 1
    then-none e c at = rw (below_test e (c + 1) (omega arith)) (omega arith)

stop-cost : (p : Plan) (g : Going) (s : Step) → is_due p.kill p.txs g.count s ≡ true
    → length (g.steps ++ stop_of p.kill s ∷ []) + unbegun (stepped g.world (stop_of p.kill s)).book (below (length p.txs)) + stop_left p.kill (g.count + counts_as p.kill p.txs (stop_of p.kill s)) ≤ cost p g
stop-cost p g s due =
    let a : length (g.steps ++ stop_of p.kill s ∷ []) ≡ length g.steps + 1 = length-append g.steps (stop_of p.kill s ∷ []) in
    let b = unbegun-falls (below (length p.txs)) g.world.book (stepped g.world (stop_of p.kill s)).book (step-stays (stop_of p.kill s) g.world) in
    let c = due-left p.kill p.txs g.count s due in
    omega arith

-- ---- an offer

made-cost : (due : Bool) (p : Plan) (g : Going) (s : Step) (more : ℕ) → is_due p.kill p.txs g.count s ≡ due
    → ((m : ℕ) → length (g.steps ++ s ∷ []) + unbegun (stepped g.world s).book (below (length p.txs)) + stop_left p.kill (g.count + m) ≤ cost p g + more)
    → let made = if due then stop_of p.kill s else s in
    length (g.steps ++ made ∷ []) + unbegun (stepped g.world made).book (below (length p.txs)) + stop_left p.kill (g.count + counts_as p.kill p.txs made) ≤ cost p g + more
made-cost true p g s more is h = let c = stop-cost p g s is in omega arith
made-cost false p g s more is h = h (counts_as p.kill p.txs s)

-- an offer costs what its step does
offer-cost : (p : Plan) (g : Going) (s : Step) (more : ℕ) → g.world.txs ≡ p.txs
    → ((m : ℕ) → length (g.steps ++ s ∷ []) + unbegun (stepped g.world s).book (below (length p.txs)) + stop_left p.kill (g.count + m) ≤ cost p g + more) → cost p (offer p.kill g s) ≤ cost p g + more
unfolding offer
offer-cost p g s more txs h =
    cond_both g.over g (if all_closed g.world then record g { over = true } else stepped_by p.kill g (or_stop p.kill g.world.txs g.count s)) (λ (x : Going). cost p x ≤ cost p g + more)
    (λ _. omega arith)
    (λ _. cond_both (all_closed g.world) (record g { over = true }) (stepped_by p.kill g (or_stop p.kill g.world.txs g.count s)) (λ (x : Going). cost p x ≤ cost p g + more)
    (λ _. omega arith)
    (λ _. subst (λ (ts : List TxDecl). length (g.steps ++ or_stop p.kill ts g.count s ∷ []) + unbegun (stepped g.world (or_stop p.kill ts g.count s)).book (below (length p.txs))
    + stop_left p.kill (g.count + counts_as p.kill ts (or_stop p.kill ts g.count s)) ≤ cost p g + more) (sym txs) (made-cost (is_due p.kill p.txs g.count s) p g s more refl h)))

where-cost : (test : Bool) (p : Plan) (g : Going) (s : Step) (more : ℕ) → (test ≡ true → cost p (offer p.kill g s) ≤ cost p g + more) → cost p (offer_where test p.kill g s) ≤ cost p g + more
where-cost true p g s more h = h refl
where-cost false p g s more h = omega arith

-- ---- a round

module _ (p : Plan) (before : List Step) (within : IsWithin p) where
  txs_of : (g : Going) → IsGoing p before g → g.world.txs ≡ p.txs
  txs_of g h = let k = going-known p before g within h in k.declared

  one-cost : (test : Bool) (g : Going) (s : Step) → IsGoing p before g → cost p (offer_where test p.kill g s) ≤ cost p g + 1
  one-cost test g s h = where-cost test p g s 1 (λ _. offer-cost p g s 1 (txs_of g h) (λ m. step-cost p g s m))

  -- an item that costs at most so much, for each of some numbers
  fold-cost : (bound each : ℕ) (item : Going → ℕ → Going) → ((g : Going) (n : ℕ) → n < bound → IsGoing p before g → IsGoing p before (item g n))
      → ((g : Going) (n : ℕ) → n < bound → IsGoing p before g → cost p (item g n) ≤ cost p g + each)
      → (first count : ℕ) → first + count ≤ bound → (g : Going) → IsGoing p before g → cost p (each_number item g (numbers_from first count)) ≤ cost p g + count * each
  unfolding each_number numbers_from
  fold-cost bound each item keeps costs first zero le g h = omega arith
  fold-cost bound each item keeps costs first (suc count) le g h =
      let one = costs g first (omega arith) h in
      let rest = fold-cost bound each item keeps costs (suc first) count (omega arith) (item g first) (keeps g first (omega arith) h) in
      let product : suc count * each ≡ count * each + each = suc-mul count each in
      omega arith

  below-cost : (bound each : ℕ) (item : Going → ℕ → Going) → ((g : Going) (n : ℕ) → n < bound → IsGoing p before g → IsGoing p before (item g n))
      → ((g : Going) (n : ℕ) → n < bound → IsGoing p before g → cost p (item g n) ≤ cost p g + each)
      → (count : ℕ) → count ≡ bound → (g : Going) → IsGoing p before g → cost p (each_number item g (below count)) ≤ cost p g + bound * each
  below-cost bound each item keeps costs count same g h =
      subst (λ (n : ℕ). cost p (each_number item g (below count)) ≤ cost p g + n * each) same (fold-cost bound each item keeps costs 0 count (omega arith) g h)

  -- no more for items that cost nothing
  free-cost : (bound : ℕ) (item : Going → ℕ → Going) → ((g : Going) (n : ℕ) → n < bound → IsGoing p before g → IsGoing p before (item g n))
      → ((g : Going) (n : ℕ) → n < bound → IsGoing p before g → cost p (item g n) ≤ cost p g)
      → (first count : ℕ) → first + count ≤ bound → (g : Going) → IsGoing p before g → cost p (each_number item g (numbers_from first count)) ≤ cost p g
  unfolding each_number numbers_from
  free-cost bound item keeps costs first zero le g h = omega arith
  free-cost bound item keeps costs first (suc count) le g h =
      let one = costs g first (omega arith) h in
      let rest = free-cost bound item keeps costs (suc first) count (omega arith) (item g first) (keeps g first (omega arith) h) in
      omega arith

  begin_item-cost : (g : Going) (k : ℕ) → k < length p.txs → IsGoing p before g → cost p (begin_item p.kill g k) ≤ cost p g
  begin_item-cost g k less h =
      let c = where-cost (can_begin g.world k) p g (Begin k) 0 (λ can. offer-cost p g (Begin k) 0 (txs_of g h) (λ m. let b = begin-cost p g k m less can in omega arith)) in omega arith

  tries_of-cost : (g : Going) (n : ℕ) → n < p.config.nodes → IsGoing p before g → cost p (tries_of p.kill g n) ≤ cost p g + p.config.slots
  tries_of-cost g n there h =
      let k = going-known p before g within h in
      let c = below-cost p.config.slots 1 (try_item p.kill n) (try_item-going p before within n there) (λ x s less at. one-cost (is_live x.world n && is_some (slot (node x.world n) s).current) x (Try n s) at)
      g.world.config.slots (ap (λ (c : Config). c.slots) k.config) g h in
      let one : p.config.slots * 1 ≡ p.config.slots = mul-one p.config.slots in
      omega arith

  with_next-cost : (g after : Going) (sender receiver : ℕ) (due : Bool) → cost p after ≤ cost p g + 1 → cost p (with_next g after sender receiver due) ≤ cost p g + 1
  unfolding with_next
  with_next-cost g after sender receiver due h =
      cond_both (not due && nat_lt (length g.steps) (length after.steps)) (record after { next = next_after g.next sender receiver }) after (λ (x : Going). cost p x ≤ cost p g + 1) (λ _. h) (λ _. h)

  delivery_item-cost : (sender receiver : ℕ) (g : Going) (turn : ℕ) → turn < 16 → IsGoing p before g → cost p (delivery_item p.kill sender receiver g turn) ≤ cost p g + 1
  unfolding delivery_item
  delivery_item-cost sender receiver g turn less h =
      let test = is_live g.world sender && is_live g.world receiver && nat_lt (next_of g.next sender receiver) (length (link g.world.links sender receiver)) in
      let due = is_due p.kill g.world.txs g.count (delivery g sender receiver) in
      cond_both test (with_next g (offer p.kill g (delivery g sender receiver)) sender receiver due) g (λ (x : Going). cost p x ≤ cost p g + 1)
      (λ _. with_next-cost g (offer p.kill g (delivery g sender receiver)) sender receiver due (offer-cost p g (delivery g sender receiver) 1 (txs_of g h) (λ m. step-cost p g (delivery g sender receiver) m)))
      (λ _. omega arith)

  deliveries_between-cost : (sender : ℕ) → sender < p.config.nodes → (g : Going) (receiver : ℕ) → receiver < p.config.nodes → IsGoing p before g → cost p (deliveries_between p.kill sender g receiver) ≤ cost p g + 16
  deliveries_between-cost sender s g receiver r h =
      let c = below-cost 16 1 (delivery_item p.kill sender receiver) (delivery_item-going p before within sender receiver s r) (delivery_item-cost sender receiver) 16 refl g h in omega arith

  deliveries_from-cost : (g : Going) (sender : ℕ) → sender < p.config.nodes → IsGoing p before g → cost p (deliveries_from p.kill g sender) ≤ cost p g + p.config.nodes * 16
  deliveries_from-cost g sender s h =
      below-cost p.config.nodes 16 (deliveries_between p.kill sender) (deliveries_between-going p before within sender s) (deliveries_between-cost sender s) g.world.config.nodes (nodes_of p before within g h) g h

  each_node-cost : (each : ℕ) (item : Going → ℕ → Going) → ((g : Going) (n : ℕ) → n < p.config.nodes → IsGoing p before g → IsGoing p before (item g n))
      → ((g : Going) (n : ℕ) → n < p.config.nodes → IsGoing p before g → cost p (item g n) ≤ cost p g + each) → (old g : Going) → IsGoing p before old → IsGoing p before g
      → cost p (each_number item g (all_nodes old)) ≤ cost p g + p.config.nodes * each
  each_node-cost each item keeps costs old g h at = below-cost p.config.nodes each item keeps costs old.world.config.nodes (nodes_of p before within old h) g at

  round-cost : (g : Going) → IsGoing p before g → cost p (round p.kill g) ≤ cost p g + per_round p.config
  unfolding round per_round
  round-cost g h =
      let last = last_view g.world.views in
      let viewed = view_item p.kill g in
      let at_viewed = view_item-going p before within g h in
      let a = one-cost (nat_lt (length (live_among g.world last)) (length last)) g (View (live_among g.world last)) h in
      let b = each_node-cost 1 (install_item p.kill) (install_item-going p before within)
      (λ x n less at. one-cost (is_live x.world n && nat_lt (node x.world n).epoch (length x.world.views)) x (Install n (length x.world.views)) at) g viewed h at_viewed in
      let installed = views_and_installs p.kill g in
      let at_installed = views_and_installs-going p before within g h in
      let k = going-known p before installed within at_installed in
      let txs : length installed.world.txs ≡ length p.txs = ap (λ (ts : List TxDecl). length ts) k.declared in
      let begun = each_number (begin_item p.kill) installed (below (length installed.world.txs)) in
      let at_begun = all_below p before within (length p.txs) (begin_item p.kill) (begin_item-going p before within) (length installed.world.txs) txs installed at_installed in
      let c = free-cost (length p.txs) (begin_item p.kill) (begin_item-going p before within) begin_item-cost 0 (length installed.world.txs) (omega arith) installed at_installed in
      let d = each_node-cost p.config.slots (tries_of p.kill) (tries_of-going p before within) tries_of-cost installed begun at_installed at_begun in
      let tried = begins_and_tries p.kill installed in
      let at_tried = begins_and_tries-going p before within installed at_installed in
      let e = each_node-cost (p.config.nodes * 16) (deliveries_from p.kill) (deliveries_from-going p before within) deliveries_from-cost tried tried at_tried at_tried in
      let delivered = each_number (deliveries_from p.kill) tried (all_nodes tried) in
      let at_delivered = all_below p before within p.config.nodes (deliveries_from p.kill) (deliveries_from-going p before within) tried.world.config.nodes (nodes_of p before within tried at_tried) tried at_tried in
      let f = each_node-cost 1 (tick_item p.kill) (tick_item-going p before within) (λ x n less at. one-cost (is_live x.world n) x (Tick n) at) tried delivered at_tried at_delivered in
      let one : p.config.nodes * 1 ≡ p.config.nodes = mul-one p.config.nodes in
      omega arith

  rounds-cost : (n : ℕ) (g : Going) → IsGoing p before g → cost p (rounds_of n p.kill g) ≤ cost p g + n * per_round p.config
  unfolding rounds_of
  rounds-cost zero g h = omega arith
  rounds-cost (suc n) g h =
      let one = round-cost g h in
      let rest = rounds-cost n (round p.kill g) (round-going p before within g h) in
      let product : suc n * per_round p.config ≡ n * per_round p.config + per_round p.config = suc-mul n (per_round p.config) in
      omega arith

count-below : (first n : ℕ) → length (numbers_from first n) ≡ n
unfolding numbers_from
count-below first zero = refl
count-below first (suc n) = ap suc (count-below (suc first) n)

-- the steps of a drive
pub drive-few : (p : Plan) (before : List Step) (rounds : ℕ) → IsWithin p → IsLiveRun p before → length (driven p before rounds).steps ≤ 20 * rounds * per_round p.config + length p.txs + 1
unfolding drive
drive-few p before rounds within live =
    let g = drive_start (run (start p.config p.txs) before) (count_of p.kill p.txs before) in
    let most = rounds-cost p before within (20 * rounds) g (start-going p before live) in
    let unbegun_at = unbegun-most (below (length p.txs)) g.world.book in
    let counted = count-below 0 (length p.txs) in
    let stops = stop_left-most p.kill g.count in
    omega arith

-- ---- numbers

product-most : (a b c d : ℕ) → a ≤ c → b ≤ d → a * b ≤ c * d
product-most a b c d h g = mul-le-mul h g

per_round-most : (c : Config) → c.nodes ≤ 8 → c.slots ≤ 8 → per_round c ≤ 1105
unfolding per_round
per_round-most c n s =
    let a : c.nodes * c.slots ≤ 8 * 8 = product-most c.nodes c.slots 8 8 n s in
    let b : c.nodes * (c.nodes * 16) ≤ 8 * 128 = product-most c.nodes (c.nodes * 16) 8 128 n (omega arith) in
    omega arith

-- a live run with its drive stays within what the world can count
pub drive-bound : (p : Plan) (before : List Step) (rounds : ℕ) → IsWithin p → IsLiveRun p before → rounds ≤ 1000 → length p.txs ≤ 1000 → length before ≤ 40000100
    → length (before ++ (driven p before rounds).steps) < 67000000
drive-bound p before rounds within live few txs long =
    let steps = (driven p before rounds).steps in
    let h = drive-few p before rounds within live in
    let limits = within.limits in
    let nodes = limits.nodes in
    let slots = limits.slots in
    let round = per_round-most p.config nodes.1 slots.1 in
    let all : 20 * rounds * per_round p.config ≤ 20000 * 1105 = product-most (20 * rounds) (per_round p.config) 20000 1105 (omega arith) round in
    let sum : length (before ++ steps) ≡ length before + length steps = length-append before steps in
    omega arith
