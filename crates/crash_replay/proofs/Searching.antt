-- The search over the streams of the nodes that are no members.
use Rattle.std.proofs.Common.{ℕ, ◌≡◌, ◌∙◌, ◌<◌, ◌≤◌, ◌+◌, ◌-◌, Bool, true, false, not, ◌&&◌, ◌==◌, List, [], ◌∷◌, ◌++◌, Option, Some, None, is_none, is_some, length, refl, sym, ap, arith}
use Rattle.zeus_base.specs.Nodes.{has}
use Rattle.zeus_base.specs.declared.order.Stream.{Stream}
use Rattle.zeus_base.specs.LoopLaws.{numbers-next, numbers-none}
use Rattle.zeus_model.specs.Commit.{none_stored, outside, streams_of, streams_outside}
use Rattle.zeus_model.specs.State.{Node, StreamLog}
use Rattle.zeus_model.specs.Tables.{below, first_of, numbers_from, or_else, where_true}
use Rattle.crash_replay.specs.Replay.{IsNodeWith, is_after, is_stored, next_in, next_stored}

-- ---- the first of some streams

or_else-assoc : {A : Type 0} (a b c : Option A) → or_else (or_else a b) c ≡ or_else a (or_else b c)
unfolding or_else
or_else-assoc None b c = refl
or_else-assoc (Some a) b c = refl

module _ (logs : List (List StreamLog)) (after : Option Stream) where
  next_in-found : (s : Stream) (ss : List Stream) → (is_after after s && is_stored logs s) ≡ true → next_in logs after (s ∷ ss) ≡ Some s
  unfolding next_in first_of where_true or_else
  next_in-found s ss e = rw e refl

  next_in-passed : (s : Stream) (ss : List Stream) → (is_after after s && is_stored logs s) ≡ false → next_in logs after (s ∷ ss) ≡ next_in logs after ss
  unfolding next_in first_of where_true or_else
  next_in-passed s ss e = rw e refl

  next_in-append : (ss ts : List Stream) → next_in logs after (ss ++ ts) ≡ or_else (next_in logs after ss) (next_in logs after ts)
  unfolding next_in first_of or_else
  next_in-append [] ts = refl
  next_in-append (s ∷ ss) ts =
      ap (or_else (where_true (is_after after s && is_stored logs s) s)) (next_in-append ss ts)
      ∙ sym (or_else-assoc (where_true (is_after after s && is_stored logs s) s) (next_in logs after ss) (next_in logs after ts))

  -- ---- the slots of a node, one by one

  module _ (node : ℕ) (slots : ℕ) where
    -- what is found from a slot on
    abbrev pub from_slot : ℕ → Option Stream
    from_slot i = next_in logs after (streams_of node (numbers_from i (slots - i)))

    pub from_slot-none : (i : ℕ) → slots ≤ i → from_slot i ≡ None
    unfolding next_in first_of streams_of
    from_slot-none i h = rw (numbers-none i slots h) refl

    pub from_slot-found : (i : ℕ) (s : Stream) → i < slots → s ≡ record { node = node; slot = i } → (is_after after s && is_stored logs s) ≡ true → from_slot i ≡ Some s
    unfolding streams_of
    from_slot-found i s h is e =
        rw (numbers-next i slots h, ← is) (next_in-found s (streams_of node (numbers_from (i + 1) (slots - (i + 1)))) e)

    pub from_slot-passed : (i : ℕ) (s : Stream) → i < slots → s ≡ record { node = node; slot = i } → (is_after after s && is_stored logs s) ≡ false → from_slot (i + 1) ≡ from_slot i
    unfolding streams_of
    from_slot-passed i s h is e =
        rw (numbers-next i slots h, ← is) (sym (next_in-passed s (streams_of node (numbers_from (i + 1) (slots - (i + 1)))) e))

  -- ---- the nodes, one by one

  module _ (members slots : List ℕ) (nodes : ℕ) where
    -- what is found from a node on
    abbrev pub from_node : ℕ → Option Stream
    from_node i = next_in logs after (streams_outside members slots (numbers_from i (nodes - i)))

    pub from_node-none : (i : ℕ) → nodes ≤ i → from_node i ≡ None
    unfolding next_in first_of streams_outside
    from_node-none i h = rw (numbers-none i nodes h) refl

    pub from_node-member : (i : ℕ) → i < nodes → has i members ≡ true → from_node (i + 1) ≡ from_node i
    unfolding streams_outside
    from_node-member i h in_it = rw (numbers-next i nodes h, in_it) refl

    pub from_node-outside : (i : ℕ) → i < nodes → has i members ≡ false → from_node i ≡ or_else (next_in logs after (streams_of i slots)) (from_node (i + 1))
    unfolding streams_outside
    from_node-outside i h out =
        rw (numbers-next i nodes h, out) (next_in-append (streams_of i slots) (streams_outside members slots (numbers_from (i + 1) (nodes - (i + 1)))))

    pub from_node-found : (i : ℕ) (s : Stream) → i < nodes → has i members ≡ false → next_in logs after (streams_of i slots) ≡ Some s → from_node i ≡ Some s
    unfolding or_else
    from_node-found i s h out found = from_node-outside i h out ∙ rw found refl

    pub from_node-passed : (i : ℕ) → i < nodes → has i members ≡ false → next_in logs after (streams_of i slots) ≡ None → from_node (i + 1) ≡ from_node i
    unfolding or_else
    from_node-passed i h out none = sym (from_node-outside i h out ∙ rw none refl)

-- ---- at a node

-- if a node's streams and members are known, then searching these finds the next stored stream that it has
pub next_stored-known : (n : Node) (logs : List (List StreamLog)) (members : List ℕ) (nodes slots : ℕ) (after : Option Stream) → length logs ≡ nodes → IsNodeWith n logs members slots → next_in logs after (streams_outside members (below slots) (below nodes)) ≡ next_stored n after
next_stored-known n logs members nodes slots after there is = rw (is.logs, is.members, is.slots, there) refl

none_stored-one : (b : Bool) (s : Stream) (r : Option Stream) → (b && is_none r) ≡ is_none (or_else (where_true (not b) s) r)
unfolding or_else where_true
none_stored-one true s r = refl
none_stored-one false s r = refl

none_stored-next : (n : Node) (ss : List Stream) → none_stored n ss ≡ is_none (next_in n.logs None ss)
unfolding none_stored next_in first_of is_after is_stored
none_stored-next n [] = refl
none_stored-next n (s ∷ ss) =
    ap (λ b. (length (Rattle.zeus_model.specs.State.log n s).kept == 0) && b) (none_stored-next n ss)
    ∙ none_stored-one (length (Rattle.zeus_model.specs.State.log n s).kept == 0) s (next_in n.logs None ss)

-- a node finds no stored stream of a node outside just if it has none there
pub none_stored-outside : (n : Node) → is_none (next_stored n None) ≡ none_stored n (outside n)
none_stored-outside n = sym (none_stored-next n (outside n))

-- if there is something just where a test is false, then there is nothing just where it is true
pub is_none-from : {A : Type 0} (r : Option A) (b : Bool) → is_some r ≡ not b → b ≡ is_none r
is_none-from None true e = refl
is_none-from None false e = cc
is_none-from (Some a) true e = cc
is_none-from (Some a) false e = refl
