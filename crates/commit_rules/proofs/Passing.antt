-- The parts of the finish: own streams, streams of nodes that are no members, and the report.
use Rattle.std.specs.Prelude.{ℕ, zero, suc, ◌≡◌, ◌<◌, ◌≤◌, ◌+◌, ◌*◌, ◌-◌, ◌&&◌, Bool, true, false, not, List, [], ◌∷◌, length, map, refl}
use Rattle.std.proofs.Common.{ap, ◌∙◌, arith}
use Rattle.zeus_base.specs.Nodes.{has, with_node, without}
use Rattle.zeus_base.specs.declared.config.Limits.{Limits}
use Rattle.zeus_base.specs.declared.order.Stream.{Stream}
use Rattle.zeus_base.specs.LoopLaws.{numbers-all, numbers-next, numbers-none}
use Rattle.zeus_packet.specs.Fits.{stream_fits}
use Rattle.zeus_packet.specs.declared.letter.Body.{Body}
use Rattle.zeus_packet.specs.declared.letter.Body.TheVariants.{Recovered}
use Rattle.zeus_packet.specs.declared.letter.Letter.{Letter}
use Rattle.zeus_model.specs.Act.{Act, and_then, in_turn, letter, still, to_each}
use Rattle.zeus_model.specs.Commit.{advance_kept, advance_kept_by, advance_own, advance_own_by, as_kept, finish, none_stored, outside, passing, report_recovered, streams_of, streams_outside}
use Rattle.zeus_model.specs.Receive.{on_recovered}
use Rattle.zeus_model.specs.State.{Node, log, slot}
use Rattle.zeus_model.specs.Tables.{below, numbers_from}
use Rattle.node_ranges.specs.CommitRules.{stream_fits-from}
use Rattle.node_ranges.specs.Ranges.{limits_of}
use Rattle.node_state.specs.declared.effect.Effect.{Effect}
use Rattle.node_state.specs.Done.{Adds, IsActed}
use Rattle.node_state.specs.EffectLaws.{adds_nothing}
use Rattle.commit_rules.proofs.Answering.{not_false, not_true}
use Rattle.commit_rules.proofs.Leading.{Leads, acted-few, acted_then, in_turn-append, in_turn-next, in_turn-none, leads-end, leads-same, leads-start, leads-step}

-- ---- at most one pass

advance_own_by-one : (n : Node) (s k : ℕ) → length (advance_own_by n s k).passed ≤ 1
unfolding advance_own_by
advance_own_by-one n s zero = omega arith
advance_own_by-one n s (suc k) = omega arith

-- an own stream that advances tells of one pass at most
pub advance_own-one : (n : Node) (s : ℕ) → length (advance_own n s).passed ≤ 1
unfolding advance_own
advance_own-one n s = advance_own_by-one n s (passing n (map as_kept (slot n s).pending))

advance_kept_by-one : (n : Node) (s : Stream) (k : ℕ) → length (advance_kept_by n s k).passed ≤ 1
unfolding advance_kept_by
advance_kept_by-one n s zero = omega arith
advance_kept_by-one n s (suc k) = omega arith

-- the stored stream of another node that advances tells of one pass at most
pub advance_kept-one : (n : Node) (s : Stream) → length (advance_kept n s).passed ≤ 1
unfolding advance_kept
advance_kept-one n s = advance_kept_by-one n s (passing n (log n s).kept)

-- ---- a loop over streams

-- what a loop over streams keeps: the act that is left, how many passes there are, and the sizes of the node's tables
pub record IsUnderWay (all left : Act) (start now : Node) (before after : Effect) (most : ℕ) : Type 0 where
  pub leads : Leads all left before after
  pub few : length after.passed ≤ most
  pub limits : limits_of now ≡ limits_of start

slots_of : (m n : Node) → limits_of m ≡ limits_of n → length m.slots ≡ length n.slots
slots_of m n e = ap (λ (limits : Limits). limits.slots) e

nodes_of : (m n : Node) → limits_of m ≡ limits_of n → length m.logs ≡ length n.logs
nodes_of m n e = ap (λ (limits : Limits). limits.nodes) e

-- if two nodes have tables of the same sizes, then a slot of one is there in the other
pub slot_there : (m n : Node) (s : ℕ) → limits_of m ≡ limits_of n → s < length n.slots → s < length m.slots
slot_there m n s e h = rw (slots_of m n e) h

-- if two nodes have tables of the same sizes, then a node in the stored streams of one is there in the other's
pub node_there : (m n : Node) (i : ℕ) → limits_of m ≡ limits_of n → i < length n.logs → i < length m.logs
node_there m n i e h = rw (nodes_of m n e) h

-- ---- own streams

-- the own streams from a slot on
abbrev pub own_from : ℕ → ℕ → Node → Act
own_from i slots n = in_turn advance_own n (numbers_from i (slots - i))

own_from-next : (i slots : ℕ) (n : Node) → i < slots → own_from i slots n ≡ and_then (advance_own n i) (λ m. own_from (i + 1) slots m)
own_from-next i slots n h = rw (numbers-next i slots h) (in_turn-next advance_own n i (numbers_from (i + 1) (slots - (i + 1))))

-- before the first own stream, all own streams are left, and nothing has passed
pub own-init : (n : Node) (out : Effect) → length out.sent ≤ 64 → out.passed ≡ [] → IsUnderWay (in_turn advance_own n (below (length n.slots))) (own_from 0 (length n.slots) n) n n out out 0
own-init n out room none =
    record {
      leads = leads-start (in_turn advance_own n (below (length n.slots))) (own_from 0 (length n.slots) n) out (rw (numbers-all (length n.slots)) refl) room;
      few = rw none (omega arith);
      limits = refl;
    }

-- after one more own stream advances, those from the next slot on are left, and one more may have passed
pub own-step : (all : Act) (start n m : Node) (i slots most : ℕ) (x y z : Effect) → i < slots → IsActed (advance_own n i) m y z → limits_of m ≡ limits_of n → IsUnderWay all (own_from i slots n) start n x y most → IsUnderWay all (own_from (i + 1) slots m) start m x z (most + 1)
own-step all start n m i slots most x y z h acted limits u =
    record {
      leads = leads-step all (own_from i slots n) (advance_own n i) (own_from (i + 1) slots) m x y z (own_from-next i slots n h) u.leads acted;
      few = let few = acted-few (advance_own n i) m y z 1 (advance_own-one n i) acted in omega (arith, u.few);
      limits = limits ∙ u.limits;
    }

-- if no own stream is left, then the node has advanced them all
pub own-end : (all : Act) (n : Node) (i slots : ℕ) (x y : Effect) → slots ≤ i → Leads all (own_from i slots n) x y → IsActed all n x y
own-end all n i slots x y h l =
    leads-end all (own_from i slots n) n x y (rw (numbers-none i slots h) (in_turn-none advance_own n)) l

-- ---- the streams of a node

-- the streams of a node from a slot on
abbrev pub streams_from : ℕ → ℕ → ℕ → Node → Act
streams_from other i slots n = in_turn advance_kept n (streams_of other (numbers_from i (slots - i)))

streams_from-next : (other i slots : ℕ) (n : Node) → i < slots → streams_from other i slots n ≡ and_then (advance_kept n record { node = other; slot = i }) (λ m. streams_from other (i + 1) slots m)
unfolding streams_of
streams_from-next other i slots n h =
    rw (numbers-next i slots h) (in_turn-next advance_kept n record { node = other; slot = i } (streams_of other (numbers_from (i + 1) (slots - (i + 1)))))

streams_from-none : (other i slots : ℕ) (n : Node) → slots ≤ i → streams_from other i slots n ≡ still n
unfolding streams_of
streams_from-none other i slots n h = rw (numbers-none i slots h) (in_turn-none advance_kept n)

-- before the first stored stream of another node, all of that node's are left
pub streams-init : (n : Node) (other : ℕ) (out : Effect) → length out.sent ≤ 64 → IsUnderWay (in_turn advance_kept n (streams_of other (below (length n.slots)))) (streams_from other 0 (length n.slots) n) n n out out (length out.passed + 0)
streams-init n other out room =
    record {
      leads = leads-start (in_turn advance_kept n (streams_of other (below (length n.slots)))) (streams_from other 0 (length n.slots) n) out (rw (numbers-all (length n.slots)) refl) room;
      few = omega arith;
      limits = refl;
    }

-- after one more stored stream of another node advances, those from the next slot on are left, and one more may have passed
pub streams-step : (all : Act) (start n m : Node) (other i slots base : ℕ) (x y z : Effect) → i < slots → IsActed (advance_kept n record { node = other; slot = i }) m y z → limits_of m ≡ limits_of n → IsUnderWay all (streams_from other i slots n) start n x y (base + i) → IsUnderWay all (streams_from other (i + 1) slots m) start m x z (base + (i + 1))
streams-step all start n m other i slots base x y z h acted limits u =
    let s : Stream = record { node = other; slot = i } in
    record {
      leads = leads-step all (streams_from other i slots n) (advance_kept n s) (streams_from other (i + 1) slots) m x y z (streams_from-next other i slots n h) u.leads acted;
      few = let few = acted-few (advance_kept n s) m y z 1 (advance_kept-one n s) acted in omega (arith, u.few);
      limits = limits ∙ u.limits;
    }

-- if no stored stream of another node is left, then all of that node's have advanced
pub streams-end : (all : Act) (n : Node) (other i slots : ℕ) (x y : Effect) → slots ≤ i → Leads all (streams_from other i slots n) x y → IsActed all n x y
streams-end all n other i slots x y h l = leads-end all (streams_from other i slots n) n x y (streams_from-none other i slots n h) l

-- a stream of a node and a slot that there are fits
pub stream_there : (m n : Node) (other i : ℕ) → limits_of m ≡ limits_of n → other < length n.logs → i < length n.slots → stream_fits (limits_of m) record { node = other; slot = i } ≡ true
stream_there m n other i e node within =
    stream_fits-from (limits_of m) record { node = other; slot = i } (node_there m n other e node) (slot_there m n i e within)

-- ---- the streams of nodes that are no members

-- those of the nodes from one on
abbrev pub outside_from : List ℕ → List ℕ → ℕ → ℕ → Node → Act
outside_from members slots i nodes n = in_turn advance_kept n (streams_outside members slots (numbers_from i (nodes - i)))

outside_from-member : (members slots : List ℕ) (i nodes : ℕ) (n : Node) → i < nodes → has i members ≡ true → outside_from members slots i nodes n ≡ outside_from members slots (i + 1) nodes n
unfolding streams_outside
outside_from-member members slots i nodes n h member = rw (numbers-next i nodes h, member) refl

outside_from-next : (members slots : List ℕ) (i nodes : ℕ) (n : Node) → i < nodes → has i members ≡ false → outside_from members slots i nodes n ≡ and_then (in_turn advance_kept n (streams_of i slots)) (λ m. outside_from members slots (i + 1) nodes m)
unfolding streams_outside
outside_from-next members slots i nodes n h stranger =
    rw (numbers-next i nodes h, stranger)
    (in_turn-append advance_kept n (streams_of i slots) (streams_outside members slots (numbers_from (i + 1) (nodes - (i + 1)))))

outside_from-none : (members slots : List ℕ) (i nodes : ℕ) (n : Node) → nodes ≤ i → outside_from members slots i nodes n ≡ still n
unfolding streams_outside
outside_from-none members slots i nodes n h = rw (numbers-none i nodes h) (in_turn-none advance_kept n)

-- if at most 8 entries have passed, then before the first node that is no member the stored streams of all such nodes are left
pub outside-init : (n : Node) (out : Effect) → length out.sent ≤ 64 → length out.passed ≤ 8 → IsUnderWay (in_turn advance_kept n (outside n)) (outside_from n.members (below (length n.slots)) 0 (length n.logs) n) n n out out (8 + 8 * 0)
outside-init n out room few =
    record {
      leads = leads-start (in_turn advance_kept n (outside n)) (outside_from n.members (below (length n.slots)) 0 (length n.logs) n) out (rw (numbers-all (length n.logs)) refl) room;
      few = omega (arith, few);
      limits = refl;
    }

-- the streams of a member are passed over
pub outside-member : (all : Act) (start n : Node) (members slots : List ℕ) (i nodes : ℕ) (x y : Effect) → i < nodes → has i members ≡ true → IsUnderWay all (outside_from members slots i nodes n) start n x y (8 + 8 * i) → IsUnderWay all (outside_from members slots (i + 1) nodes n) start n x y (8 + 8 * (i + 1))
outside-member all start n members slots i nodes x y h member u =
    record {
      leads = leads-same all (outside_from members slots i nodes n) (outside_from members slots (i + 1) nodes n) x y (outside_from-member members slots i nodes n h member) u.leads;
      few = omega (arith, u.few);
      limits = u.limits;
    }

-- those of another node advance
pub outside-step : (all : Act) (start n m : Node) (members : List ℕ) (i nodes : ℕ) (x y z : Effect) → i < nodes → has i members ≡ false → IsActed (in_turn advance_kept n (streams_of i (below (length n.slots)))) m y z → length z.passed ≤ length y.passed + 8 → limits_of m ≡ limits_of n → IsUnderWay all (outside_from members (below (length start.slots)) i nodes n) start n x y (8 + 8 * i) → IsUnderWay all (outside_from members (below (length start.slots)) (i + 1) nodes m) start m x z (8 + 8 * (i + 1))
outside-step all start n m members i nodes x y z h stranger acted few limits u =
    let there = rw (slots_of n start u.limits) at acted in
    let slots = below (length start.slots) in
    record {
      leads = leads-step all (outside_from members slots i nodes n) (in_turn advance_kept n (streams_of i slots)) (outside_from members slots (i + 1) nodes) m x y z (outside_from-next members slots i nodes n h stranger) u.leads there;
      few = omega (arith, few, u.few);
      limits = limits ∙ u.limits;
    }

-- if no node that is no member is left, then the stored streams of all such nodes have advanced
pub outside-end : (all : Act) (n : Node) (members slots : List ℕ) (i nodes : ℕ) (x y : Effect) → nodes ≤ i → Leads all (outside_from members slots i nodes n) x y → IsActed all n x y
outside-end all n members slots i nodes x y h l = leads-end all (outside_from members slots i nodes n) n x y (outside_from-none members slots i nodes n h) l

-- ---- the report

and-false : (b : Bool) → (b && false) ≡ false
and-false true = refl
and-false false = refl

still_acted : (n : Node) (out : Effect) → length out.sent ≤ 64 → IsActed (still n) n out out
still_acted n out room = record { becomes = refl; adds = adds_nothing out room }

-- a node that has something to replay does not report
pub report-unrecovered : (n : Node) (out : Effect) → false ≡ none_stored n (outside n) → length out.sent ≤ 64 → IsActed (report_recovered n) n out out
unfolding report_recovered
report-unrecovered n out e room = rw (← e, and-false (not (has n.me n.reported))) (still_acted n out room)

-- nor does one that has reported
pub report-again : (n m : Node) (out : Effect) → false ≡ not (has n.me n.reported) → m ≡ (on_recovered n n.me).node → length out.sent ≤ 64 → IsActed (report_recovered n) m out out
unfolding report_recovered on_recovered
report-again n m out e becomes room = rw (becomes, not_false (has n.me n.reported) e) (still_acted n out room)

-- a letter depends on its sender's number and epoch alone
to_each-reported : (n : Node) (reported tos : List ℕ) (body : Body) → to_each (record n { reported = reported }) tos body ≡ to_each n tos body
unfolding to_each
to_each-reported n reported [] body = refl
to_each-reported n reported (to ∷ tos) body = ap (λ (ls : List Letter). letter n to body ∷ ls) (to_each-reported n reported tos body)

-- any other reports to the members
pub report-first : (n m : Node) (before after : Effect) → true ≡ none_stored n (outside n) → true ≡ not (has n.me n.reported) → m ≡ (on_recovered n n.me).node → Adds (to_each m (without n.me m.members) Recovered) [] before after → IsActed (report_recovered n) m before after
unfolding report_recovered on_recovered
report-first n m before after e news becomes adds =
    let none = not_true (has n.me n.reported) news in
    let is = rw none at becomes in
    rw (← e, none)
    record { becomes = is; adds = rw (← to_each-reported n (with_node n.me n.reported) (without n.me n.members) Recovered) (rw is at adds) }

-- ---- all three

-- if own streams advance, then those of nodes that are no members, and then the node reports, then the finish is done
pub finished : (n m k o : Node) (x y z w : Effect) → IsActed (in_turn advance_own n (below (length n.slots))) m x y → IsActed (in_turn advance_kept m (outside m)) k y z → IsActed (report_recovered k) o z w → IsActed (finish n) o x w
unfolding finish
finished n m k o x y z w f g h =
    acted_then (in_turn advance_own n (below (length n.slots))) (λ a. and_then (in_turn advance_kept a (outside a)) report_recovered) m o x y w f
    (acted_then (in_turn advance_kept m (outside m)) report_recovered k o y z w g h)
