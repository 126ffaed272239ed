-- Each step keeps the sizes of a world, and the ranges of its nodes and letters.
use Rattle.std.proofs.Common.{ℕ, zero, suc, ◌≡◌, ◌≢◌, ◌<◌, ◌≤◌, ◌+◌, ◌-◌, ◌++◌, Bool, true, false, List, [], ◌∷◌, Option, Some, None, length, take, refl, sym, ap, ◌∙◌, subst, arith, inl, inr, ◌⊎◌}
use Rattle.std.specs.Prelude.{is_some, is_none, ◌&&◌, nat_lt, map, replicate, if◌then◌else◌}
use Rattle.std.specs.List.{All}
use Rattle.std.proofs.lemmas.Bool.{and_parts, cases_Bool, ltb-true, ltb-false}
use Rattle.std.proofs.lemmas.List.Elements.{All-append, All-tail, All-head}
use Rattle.std.proofs.lemmas.List.{length-replicate}
use Rattle.zeus_base.specs.Limits.{KeepsLimits, limits_of}
use Rattle.zeus_base.specs.TableLaws.{length-put, nth-put_same, nth-put_other, nth-replicate}
use Rattle.zeus_base.specs.declared.config.Config.{Config}
use Rattle.zeus_base.specs.declared.config.Limits.{Limits}
use Rattle.zeus_base.specs.declared.step.Step.{Step}
use Rattle.zeus_base.specs.declared.step.Step.TheVariants.{Begin, Try, Deliver, Tick, Stop, View, Install}
use Rattle.zeus_base.specs.NodeLaws.{IsBelow}
use Rattle.zeus_packet.specs.Fits.{fits, nodes_fit, body_fits}
use Rattle.zeus_packet.specs.declared.letter.Letter.{Letter}
use Rattle.zeus_packet.specs.declared.place.View.{View as ViewOf}
use Rattle.zeus_txn.specs.declared.tx.TxDecl.{TxDecl}
use Rattle.zeus_model.specs.Act.{Did}
use Rattle.zeus_model.specs.Book.{Book, BookChange, TxRecord, book_begin, book_passes, book_tried, book_only, counted, change_then, in_stream_order, no_record}
use Rattle.zeus_model.specs.Local.{begin, try_slot}
use Rattle.zeus_model.specs.Membership.{install, stop, tick}
use Rattle.zeus_model.specs.Receive.{receive}
use Rattle.zeus_model.specs.Scripts.{FitsStep, FitsTx, FitsTxs, FitTxs}
use Rattle.zeus_model.specs.State.{Node}
use Rattle.zeus_model.specs.Tables.{below, nth, numbers_from, put}
use Rattle.zeus_model.specs.World.{World, Event, acted, all_posted, begin_or_not, begin_refused, begun_at, book_begun, first_64, deliver_or_not, happens, installed_at, link, no_node, no_tx, node, nth_letter, posted, received_at, refuse_step, run, start, start_node, step_begin, step_install, stepped, stopped_at, ticked_at, tried_at, tx_decl, view_or_not, view_refused}
use Rattle.zeus_model.specs.declared.answer.Answer.{Answer}
use Rattle.zeus_model.specs.declared.answer.Answer.TheVariants.{Begin as BeginAnswer, Try as TryAnswer, Receive as ReceiveAnswer, Tick as TickAnswer, Stop as StopAnswer, View as ViewAnswer, Install as InstallAnswer, NoPacket, NoView}
use Rattle.zeus_model.specs.declared.answer.Begin.{Begin as BeginOutcome}
use Rattle.zeus_model.specs.declared.answer.Begin.TheVariants.{Begun, Busy, Stopped as BeginStopped}
use Rattle.zeus_model.specs.declared.answer.Made.{Made}
use Rattle.node_ranges.specs.LocalRules.{begin-keeps, try_slot-keeps}
use Rattle.node_ranges.specs.NodeSets.{nodes_fit-below, nodes_fit-has, nodes_fit-members}
use Rattle.node_ranges.specs.Places.{AllFit-none, AllFit-one, AllFit-append, AllFit-take}
use Rattle.node_ranges.specs.Ranges.{AllFit, KeepsRanges, KeepsAndFits}
use Rattle.node_ranges.specs.ReceiveRules.{receive-keeps}
use Rattle.node_ranges.specs.StartRanges.{KeepsRanges-start}
use Rattle.node_ranges.specs.TickRules.{install-keeps, stop-keeps, tick-keeps}
use Rattle.node_ranges.specs.Transactions.{FitsTx-declared}
use Rattle.history_book.proofs.History.{equal_or_not}
use Rattle.reached_worlds.specs.Ranged.{IsRanged}
use Rattle.reached_worlds.proofs.Passes.{IsOfBelow, IsSized, book_passes-sized, book_tried-sized, sized_on, sized_same}
use Rattle.reached_worlds.proofs.Signed.{AreBy, IsBy, begin-by, by_take, install-by, receive-by, stop-by, tick-by, try_slot-by}

-- ---- letters

-- the ends of a letter that fits are nodes
pub record HasEnds (nodes : ℕ) (l : Letter) : Type 0 where
  pub from : l.from < nodes
  pub to : l.to < nodes

-- if a letter fits, then its sender and its receiver are nodes
pub fits_ends : (limits : Limits) (l : Letter) → fits l limits ≡ true → HasEnds limits.nodes l
unfolding fits
fits_ends limits l h =
    let one = and_parts (nat_lt l.from limits.nodes && nat_lt l.to limits.nodes && Rattle.std.specs.Prelude.nat_le 1 l.epoch) (body_fits limits l.body) h in
    let two = and_parts (nat_lt l.from limits.nodes && nat_lt l.to limits.nodes) (Rattle.std.specs.Prelude.nat_le 1 l.epoch) one.0 in
    let three = and_parts (nat_lt l.from limits.nodes) (nat_lt l.to limits.nodes) two.0 in
    record { from = ltb-true l.from limits.nodes three.0; to = ltb-true l.to limits.nodes three.1 }

-- if all letters fit, then so does the first
pub first_fits : (limits : Limits) (l : Letter) (ls : List Letter) → AllFit limits (l ∷ ls) → fits l limits ≡ true
unfolding AllFit
first_fits limits l ls h = All-head (λ (k : Letter). fits k limits ≡ true) l ls h

-- if all letters fit, then so do those behind the first
pub rest_fits : (limits : Limits) (l : Letter) (ls : List Letter) → AllFit limits (l ∷ ls) → AllFit limits ls
unfolding AllFit
rest_fits limits l ls h = All-tail (λ (k : Letter). fits k limits ≡ true) l ls h

-- the links of a world
pub record AreLinks (limits : Limits) (links : List (List (List Letter))) : Type 0 where
  pub senders : length links ≡ limits.nodes
  pub receivers : (n : ℕ) → n < limits.nodes → length (nth [] links n) ≡ limits.nodes
  pub letters : (from to : ℕ) → AllFit limits (link links from to)

posted_here : (limits : Limits) (row : List (List Letter)) (to at : ℕ) (l : Letter) → fits l limits ≡ true → ((i : ℕ) → AllFit limits (nth [] row i)) → AllFit limits (nth [] (put [] row to (nth [] row to ++ l ∷ [])) at)
posted_here limits row to at l h each =
    elim (equal_or_not to at) [
      | inl e ↦ rw (← e, nth-put_same [] row to (nth [] row to ++ l ∷ [])) (AllFit-append limits (nth [] row to) (l ∷ []) (each to) (AllFit-one limits l h))
      | inr n ↦ rw (nth-put_other [] row to at (nth [] row to ++ l ∷ []) n) (each at)
    ]

posted_fit : (limits : Limits) (links : List (List (List Letter))) (l : Letter) (from to : ℕ) → fits l limits ≡ true → ((i j : ℕ) → AllFit limits (link links i j)) → AllFit limits (link (posted links l) from to)
posted_fit limits links l from to h each =
    elim (equal_or_not l.from from) [
      | inl e ↦ rw (← e, nth-put_same [] links l.from (put [] (nth [] links l.from) l.to (link links l.from l.to ++ l ∷ []))) (posted_here limits (nth [] links l.from) l.to to l h (each l.from))
      | inr n ↦ rw (nth-put_other [] links l.from from (put [] (nth [] links l.from) l.to (link links l.from l.to ++ l ∷ [])) n) (each from to)
    ]

links_posted_one : (limits : Limits) (links : List (List (List Letter))) (l : Letter) → AreLinks limits links → fits l limits ≡ true → AreLinks limits (posted links l)
links_posted_one limits links l a f =
    let ends = fits_ends limits l f in
    let here : l.from < length links = rw (a.senders) ends.from in
    let there : l.to < length (nth [] links l.from) = rw (a.receivers l.from ends.from) ends.to in
    let row : List (List Letter) = put [] (nth [] links l.from) l.to (link links l.from l.to ++ l ∷ []) in
    record {
      senders = length-put [] links l.from row here ∙ a.senders;
      receivers = λ n h.
          elim (equal_or_not l.from n) [
            | inl e ↦ rw (← e, nth-put_same [] links l.from row) (length-put [] (nth [] links l.from) l.to (link links l.from l.to ++ l ∷ []) there ∙ a.receivers l.from ends.from)
            | inr d ↦ ap length (nth-put_other [] links l.from n row d) ∙ a.receivers n h
          ];
      letters = λ from to. posted_fit limits links l from to f a.letters;
    }

-- if the letters of all links fit and those sent do, then so do the letters after these are posted
pub links_posted : (limits : Limits) (links : List (List (List Letter))) (sent : List Letter) → AreLinks limits links → AllFit limits sent → AreLinks limits (all_posted links sent)
unfolding all_posted
links_posted limits links [] a f = a
links_posted limits links (l ∷ ls) a f =
    links_posted limits (posted links l) ls (links_posted_one limits links l a (first_fits limits l ls f)) (rest_fits limits l ls f)

-- ---- steps

abbrev limits : World → Limits
limits w = limits_of w.config

-- if a world is in its ranges, then the letters of all its links fit
pub are_links : (w : World) → IsRanged w → AreLinks (limits_of w.config) w.links
are_links w r = record { senders = r.senders; receivers = r.receivers; letters = r.letters }

-- a step that changes the book alone, or the views too
ranged_refused : (w : World) (a : Answer) → IsRanged w → IsRanged (refuse_step w a).world
ranged_refused w a r = record {
  limits = r.limits;
  declared = r.declared;
  count = r.count;
  ranges = r.ranges;
  numbers = r.numbers;
  senders = r.senders;
  receivers = r.receivers;
  letters = r.letters;
  members = r.members;
  records = r.records;
}

-- a node has acted within the ranges
ranged_acted : (w : World) (n : ℕ) (after : Node) (a : Answer) (letters : List Letter) (c : BookChange) → IsRanged w → n < w.config.nodes
    → KeepsRanges (limits_of w.config) after → after.me ≡ n → AllFit (limits_of w.config) letters → IsSized w.book c.book → IsRanged (acted w n after a letters c).world
ranged_acted w n after a letters c r h keeps number fit sized =
    let there : n < length w.nodes = rw r.count h in
    let links = links_posted (limits_of w.config) w.links letters (are_links w r) fit in
    record {
      limits = r.limits;
      declared = r.declared;
      count = length-put no_node w.nodes n after there ∙ r.count;
      ranges = λ m k. elim (equal_or_not n m) [
        | inl same ↦ rw (← same, nth-put_same no_node w.nodes n after) keeps
        | inr other ↦ rw (nth-put_other no_node w.nodes n m after other) (r.ranges m k)
      ];
      numbers = λ m k. elim (equal_or_not n m) [
        | inl same ↦ rw (← same, nth-put_same no_node w.nodes n after) number
        | inr other ↦ rw (nth-put_other no_node w.nodes n m after other) (r.numbers m k)
      ];
      senders = links.senders;
      receivers = links.receivers;
      letters = links.letters;
      members = r.members;
      records = sized.records ∙ r.records;
    }

-- the transactions of a script, by number
fit_tx : (c : Config) (i : ℕ) (txs : List TxDecl) (k : ℕ) → FitTxs c i txs → k < length txs → FitsTx c (i + k) (nth no_tx txs k)
unfolding FitTxs nth
fit_tx c i [] k h less = absurd (omega arith)
fit_tx c i (t ∷ ts) zero h less = let z : i + 0 ≡ i = omega arith in rw z h.0
fit_tx c i (t ∷ ts) (suc k) h less = let z : i + suc k ≡ suc i + k = omega arith in rw z (fit_tx c (suc i) ts k h.1 (omega arith))

-- if a world is in its ranges, then each of its transactions fits at its number
pub tx_fits : (w : World) (k : ℕ) → IsRanged w → k < length w.txs → FitsTx w.config k (tx_decl w k)
tx_fits w k r less = let z : 0 + k ≡ k = omega arith in rw z at (fit_tx w.config 0 w.txs k r.declared.each less)

begun_sized : (b : Book) (k : ℕ) (a : BeginOutcome) → k < length b.records → IsSized b (book_begun b k a).book
unfolding book_begun
begun_sized b k Begun h = record { records = length-put no_record b.records k _ h; steps = refl }
begun_sized b k (Busy id) h = sized_same b
begun_sized b k BeginStopped h = sized_same b

ranged_begin : (w : World) (k : ℕ) (o : Option Answer) → IsRanged w → k < length w.txs → IsRanged (begin_or_not w k o).world
unfolding begin_or_not
ranged_begin w k (Some a) r h = ranged_refused w a r
ranged_begin w k None r h =
    let t = tx_fits w k r h in
    let n : ℕ = (tx_decl w k).node in
    let did = begin (node w n) (tx_decl w k).slot k (tx_decl w k).tx in
    let keeps = begin-keeps (limits_of w.config) (node w n) (tx_decl w k).slot k (tx_decl w k).tx t.slot (FitsTx-declared w.config k (tx_decl w k) t) (r.ranges n t.node) in
    let by = begin-by n (tx_decl w k).slot k (tx_decl w k).tx (node w n) (r.numbers n t.node) in
    ranged_acted w n did.node (BeginAnswer did.answer) [] (book_begun w.book k did.answer) r t.node keeps.node by.number (AllFit-none (limits_of w.config)) (begun_sized w.book k did.answer (rw r.records h))

ranged_try : (w : World) (n s : ℕ) → IsRanged w → n < w.config.nodes → s < w.config.slots → IsOfBelow (length w.book.records) (try_slot (node w n) s).answer → IsRanged (tried_at w n s (try_slot (node w n) s)).world
unfolding tried_at
ranged_try w n s r h k there =
    let did = try_slot (node w n) s in
    let keeps = try_slot-keeps (limits_of w.config) (node w n) s k (r.ranges n h) in
    let by = try_slot-by n s (node w n) (r.numbers n h) in
    let tried = book_tried w.book record { node = n; slot = s } w.config.degree did.answer in
    let passed = book_passes tried.book n (in_stream_order did.passed) in
    ranged_acted w n did.node (TryAnswer did.answer) (first_64 did.sent) (change_then tried (λ b. book_passes b n (in_stream_order did.passed))) r h keeps.node by.number (AllFit-take (limits_of w.config) 64 did.sent keeps.sent)
    (sized_on w.book tried.book passed.book (book_tried-sized w.book record { node = n; slot = s } w.config.degree did.answer there) (book_passes-sized tried.book n (in_stream_order did.passed)))

all_at : (limits : Limits) (ls : List Letter) (i : ℕ) (l : Letter) → AllFit limits ls → nth_letter ls i ≡ Some l → fits l limits ≡ true
unfolding nth_letter
all_at limits [] i l a e = cc
all_at limits (k ∷ ls) zero l a e = let same : k ≡ l = cc in subst (λ (m : Letter). fits m limits ≡ true) same (first_fits limits k ls a)
all_at limits (k ∷ ls) (suc i) l a e = all_at limits ls i l (rest_fits limits k ls a) e

-- a letter that stands on a link fits
pub letter_fits : (w : World) (from to i : ℕ) (l : Letter) → IsRanged w → nth_letter (link w.links from to) i ≡ Some l → fits l (limits_of w.config) ≡ true
letter_fits w from to i l r e = all_at (limits_of w.config) (link w.links from to) i l (r.letters from to) e

ranged_deliver : (w : World) (from to : ℕ) (o : Option Letter) → IsRanged w → to < w.config.nodes → ((l : Letter) → o ≡ Some l → fits l (limits_of w.config) ≡ true) → IsRanged (deliver_or_not w from to o).world
unfolding deliver_or_not received_at
ranged_deliver w from to None r h fit = ranged_refused w (NoPacket (length (link w.links from to))) r
ranged_deliver w from to (Some l) r h fit =
    let did = receive (node w to) l in
    let keeps = receive-keeps (limits_of w.config) (node w to) l (fit l refl) (r.ranges to h) in
    let by = receive-by to l (node w to) (r.numbers to h) in
    ranged_acted w to did.node (ReceiveAnswer did.answer) (first_64 did.sent) (book_passes w.book to (in_stream_order did.passed)) r h keeps.node by.number (AllFit-take (limits_of w.config) 64 did.sent keeps.sent)
    (book_passes-sized w.book to (in_stream_order did.passed))

ranged_tick : (w : World) (n : ℕ) → IsRanged w → n < w.config.nodes → IsRanged (ticked_at w n (tick (node w n))).world
unfolding ticked_at
ranged_tick w n r h =
    let did = tick (node w n) in
    let keeps = tick-keeps (limits_of w.config) (node w n) (r.ranges n h) in
    let by = tick-by n (node w n) (r.numbers n h) in
    ranged_acted w n did.node (TickAnswer did.answer) (first_64 did.sent) (book_only w.book) r h keeps.node by.number (AllFit-take (limits_of w.config) 64 did.sent keeps.sent) (sized_same w.book)

ranged_stop : (w : World) (n : ℕ) → IsRanged w → n < w.config.nodes → IsRanged (stopped_at w n (stop (node w n))).world
unfolding stopped_at
ranged_stop w n r h =
    let did = stop (node w n) in
    let keeps = stop-keeps (limits_of w.config) (node w n) (r.ranges n h) in
    let by = stop-by n (node w n) (r.numbers n h) in
    ranged_acted w n did.node (StopAnswer did.answer) [] (book_only w.book) r h keeps.node by.number (AllFit-none (limits_of w.config)) (sized_same w.book)

below_fits : (c : Config) (set : List ℕ) → IsBelow c.nodes set → nodes_fit (limits_of c) set ≡ true
below_fits c set h = nodes_fit-members (limits_of c) set h

members_append : (c : Config) (views : List (List ℕ)) (set : List ℕ) → ((i : ℕ) → nodes_fit (limits_of c) (nth [] views i) ≡ true) → nodes_fit (limits_of c) set ≡ true → (i : ℕ) → nodes_fit (limits_of c) (nth [] (views ++ set ∷ []) i) ≡ true
unfolding nth
members_append c [] set each h zero = h
members_append c [] set each h (suc i) = each i
members_append c (v ∷ views) set each h zero = each 0
members_append c (v ∷ views) set each h (suc i) = members_append c views set (λ j. each (suc j)) h i

ranged_view : (w : World) (set : List ℕ) (o : Option Made) → IsRanged w → IsBelow w.config.nodes set → IsRanged (view_or_not w set o).world
unfolding view_or_not
ranged_view w set (Some m) r h = ranged_refused w (ViewAnswer m) r
ranged_view w set None r h = record {
  limits = r.limits;
  declared = r.declared;
  count = r.count;
  ranges = r.ranges;
  numbers = r.numbers;
  senders = r.senders;
  receivers = r.receivers;
  letters = r.letters;
  members = members_append w.config w.views set r.members (below_fits w.config set h);
  records = r.records;
}

ranged_either : (test : Bool) (a b : Event) → IsRanged a.world → IsRanged b.world → IsRanged (if test then a else b).world
ranged_either true a b h k = h
ranged_either false a b h k = k

ranged_install : (w : World) (n e : ℕ) → IsRanged w → n < w.config.nodes → 1 ≤ e → IsRanged (step_install w n e).world
unfolding step_install installed_at
ranged_install w n e r h first =
    let v : ViewOf = record { epoch = e; members = nth [] w.views (e - 1) } in
    let did = install (node w n) v in
    let keeps = install-keeps (limits_of w.config) (node w n) v first (r.members (e - 1)) (r.ranges n h) in
    let by = install-by n v (node w n) (r.numbers n h) in
    ranged_either (nat_lt (length w.views) e) (refuse_step w (NoView (length w.views))) (installed_at w n did) (ranged_refused w (NoView (length w.views)) r)
    (ranged_acted w n did.node (InstallAnswer did.answer) (first_64 did.sent) (book_passes w.book n (in_stream_order did.passed)) r h keeps.node by.number (AllFit-take (limits_of w.config) 64 did.sent keeps.sent)
    (book_passes-sized w.book n (in_stream_order did.passed)))

-- a step that fits keeps a world in its ranges; a try speaks of a transaction that there is
pub ranged_step : (w : World) (s : Step) → IsRanged w → FitsStep w.config (length w.txs) s → ((n slot : ℕ) → IsOfBelow (length w.book.records) (try_slot (node w n) slot).answer) → IsRanged (stepped w s)
unfolding happens step_begin FitsStep
ranged_step w (Begin k) r f there = ranged_begin w k (begin_refused w k) r f
ranged_step w (Try n s) r f there = ranged_try w n s r f.0 f.1 (there n s)
ranged_step w (Deliver from to i) r f there = ranged_deliver w from to (nth_letter (link w.links from to) i) r f.1 (λ l e. letter_fits w from to i l r e)
ranged_step w (Tick n) r f there = ranged_tick w n r f
ranged_step w (Stop n) r f there = ranged_stop w n r f
ranged_step w (View set) r f there = ranged_view w set (view_refused w set) r f.1
ranged_step w (Install n e) r f there = ranged_install w n e r f.0 f.1

-- ---- the start

numbers_at : {A : Type 0} (d : A) (f : ℕ → A) (i k n : ℕ) → n < k → nth d (map f (numbers_from i k)) n ≡ f (i + n)
unfolding nth numbers_from
numbers_at d f i zero n h = absurd (omega arith)
numbers_at d f i (suc k) zero h = let z : i ≡ i + 0 = omega arith in ap f z
numbers_at d f i (suc k) (suc n) h = let z : suc i + n ≡ i + suc n = omega arith in numbers_at d f (suc i) k n (omega arith) ∙ ap f z

-- at the start each node is that of its configuration
pub node_at_start : (c : Config) (txs : List TxDecl) (n : ℕ) → n < c.nodes → node (start c txs) n ≡ start_node c n
unfolding start
node_at_start c txs n h = let z : 0 + n ≡ n = omega arith in numbers_at no_node (start_node c) 0 c.nodes n h ∙ ap (start_node c) z

numbers_count : {A : Type 0} (f : ℕ → A) (i k : ℕ) → length (map f (numbers_from i k)) ≡ k
unfolding numbers_from
numbers_count f i zero = refl
numbers_count f i (suc k) = ap suc (numbers_count f (suc i) k)

number_start : (c : Config) (n : ℕ) → (start_node c n).me ≡ n
unfolding start_node
number_start c n = refl

none_in : (limits : Limits) (k j : ℕ) → AllFit limits (nth [] (replicate k []) j)
unfolding nth
none_in limits zero j = AllFit-none limits
none_in limits (suc k) zero = AllFit-none limits
none_in limits (suc k) (suc j) = none_in limits k j

none_past : (limits : Limits) (j : ℕ) → AllFit limits (nth [] [] j)
unfolding nth
none_past limits j = AllFit-none limits

no_letters : (limits : Limits) (nodes k i j : ℕ) → AllFit limits (link (replicate nodes (replicate k [])) i j)
unfolding nth
no_letters limits zero k i j = none_past limits j
no_letters limits (suc n) k zero j = none_in limits k j
no_letters limits (suc n) k (suc i) j = no_letters limits n k i j

first_members : (c : Config) → KeepsLimits c → (i : ℕ) → nodes_fit (limits_of c) (nth [] (below c.nodes ∷ []) i) ≡ true
unfolding nth nodes_fit
first_members c k zero = nodes_fit-below (limits_of c) c.nodes (omega arith)
first_members c k (suc i) = refl

-- if a configuration and its transactions keep the limits, then the start is in its ranges
pub ranged_start : (c : Config) (txs : List TxDecl) → KeepsLimits c → FitsTxs c txs → IsRanged (start c txs)
unfolding start
ranged_start c txs limits fit =
    let none : List (List (List Letter)) = replicate c.nodes (replicate c.nodes []) in
    record {
      limits = limits;
      declared = fit;
      count = numbers_count (start_node c) 0 c.nodes;
      ranges = λ n h. subst (KeepsRanges (limits_of c)) (sym (node_at_start c txs n h)) (KeepsRanges-start c n limits h);
      numbers = λ n h. ap (λ (m : Node). m.me) (node_at_start c txs n h) ∙ number_start c n;
      senders = length-replicate c.nodes (replicate c.nodes []);
      receivers = λ n h. ap length (nth-replicate [] (replicate c.nodes []) c.nodes n h) ∙ length-replicate c.nodes [];
      letters = λ i j. no_letters (limits_of c) c.nodes c.nodes i j;
      members = first_members c limits;
      records = length-replicate (length txs) no_record;
    }
