-- How a world stands, read from its nodes.
use Rattle.std.proofs.Common.{ℕ, suc, ◌≡◌, ◌<◌, ◌≤◌, ◌+◌, ◌-◌, ◌&&◌, Bool, true, false, not, List, [], ◌∷◌, Option, Some, None, length, drop, refl, sym, ap, ◌∙◌, arith, add-one, drop-cons, if◌then◌else◌}
use Rattle.std.proofs.Math.ListN.{get_or}
use Rattle.std.proofs.lemmas.List.{drop_all}
use Rattle.zeus_base.specs.Order.{is_below}
use Rattle.zeus_base.specs.TableLaws.{nth_read, nth-past}
use Rattle.zeus_packet.specs.declared.place.Place.{Place}
use Rattle.zeus_model.specs.declared.state.Copy.{Copy}
use Rattle.zeus_model.specs.declared.state.Entry.{Entry}
use Rattle.zeus_model.specs.Readers.{is_live, is_lost, live_among, no_nodes, owner}
use Rattle.zeus_model.specs.Sound.{latest_entry, latest_place, newer, newest}
use Rattle.zeus_model.specs.State.{Node, copy, entry, owns}
use Rattle.zeus_model.specs.Tables.{nth, numbers_from, or_else, where_true, first_of}
use Rattle.zeus_model.specs.World.{World, no_node, node}

-- the node that is read is the one in its place
pub node_there : (ns : List Node) (i : ℕ) (n : Node) → i < length ns → n ≡ get_or ns i n → n ≡ nth no_node ns i
node_there ns i n h e = sym (nth_read no_node ns i n h e)

-- if a node is at an index, then whether it is live is whether the node there is
pub live_there : (ns : List Node) (i : ℕ) (n : Node) (stopped : Bool) → i < length ns → n ≡ get_or ns i n → stopped ≡ n.stopped → not stopped ≡ not (nth no_node ns i).stopped
live_there ns i n stopped h e s = ap not (s ∙ ap (λ (m : Node). m.stopped) (node_there ns i n h e))

-- past the last node none is live
pub live_past : (ns : List Node) (i : ℕ) → length ns ≤ i → false ≡ not (nth no_node ns i).stopped
live_past ns i h = ap (λ (m : Node). not m.stopped) (sym (nth-past no_node ns i h))

no_copy : (x : ℕ) → None ≡ copy no_node x
unfolding nth
no_copy x = refl

-- if a node is at an index, then its copy of an object is that of the node there
pub copy_there : (ns : List Node) (i x : ℕ) (n : Node) (c : Option Copy) → i < length ns → n ≡ get_or ns i n → c ≡ copy n x → c ≡ copy (nth no_node ns i) x
copy_there ns i x n c h e s = s ∙ ap (λ (m : Node). copy m x) (node_there ns i n h e)

-- past the last node there is no copy
pub copy_past : (ns : List Node) (i x : ℕ) → length ns ≤ i → None ≡ copy (nth no_node ns i) x
copy_past ns i x h = no_copy x ∙ ap (λ (m : Node). copy m x) (sym (nth-past no_node ns i h))

-- if a node is at an index, then it owns an object exactly if the node there does
pub owns_there : (ns : List Node) (i x : ℕ) (n : Node) (b : Bool) → i < length ns → n ≡ get_or ns i n → b ≡ owns n x → b ≡ owns (nth no_node ns i) x
owns_there ns i x n b h e s = s ∙ ap (λ (m : Node). owns m x) (node_there ns i n h e)

-- the owner, found from the first node on
numbers_cons : (i k : ℕ) → numbers_from i (suc k) ≡ i ∷ numbers_from (suc i) k
unfolding numbers_from
numbers_cons i k = refl

numbers_next : (i n : ℕ) → i < n → numbers_from i (n - i) ≡ i ∷ numbers_from (i + 1) (n - (i + 1))
numbers_next i n h =
    let count : n - i ≡ suc (n - (i + 1)) = omega arith in
    let next : suc i ≡ i + 1 = omega arith in
    ap (numbers_from i) count ∙ numbers_cons i (n - (i + 1)) ∙ ap (λ j. i ∷ numbers_from j (n - (i + 1))) next

first_here : {A B : Type 0} (f : A → Option B) (x : A) (xs : List A) (b : B) → f x ≡ Some b → first_of f (x ∷ xs) ≡ Some b
unfolding first_of or_else
first_here f x xs b e = ap (λ o. or_else o (first_of f xs)) e

first_later : {A B : Type 0} (f : A → Option B) (x : A) (xs : List A) → f x ≡ None → first_of f (x ∷ xs) ≡ first_of f xs
unfolding first_of or_else
first_later f x xs e = ap (λ o. or_else o (first_of f xs)) e

first_nowhere : {B : Type 0} (f : ℕ → Option B) (i : ℕ) → first_of f (numbers_from i 0) ≡ None
unfolding first_of numbers_from
first_nowhere f i = refl

where_both : (a b : Bool) (i : ℕ) → a ≡ true → b ≡ true → where_true (a && b) i ≡ Some i
unfolding where_true
where_both a b i h k = rw (h, k) refl

where_first_not : (a b : Bool) (i : ℕ) → a ≡ false → where_true (a && b) i ≡ None
unfolding where_true
where_first_not a b i h = rw h refl

where_second_not : (a b : Bool) (i : ℕ) → a ≡ true → b ≡ false → where_true (a && b) i ≡ None
unfolding where_true
where_second_not a b i h k = rw (h, k) refl

abbrev owner_at : World → ℕ → ℕ → Option ℕ
owner_at w x n = where_true (is_live w n && owns (node w n) x) n

-- the owner among the nodes from a number on
unfoldable pub owner_from : World → ℕ → ℕ → Option ℕ
owner_from w x i = first_of (owner_at w x) (numbers_from i (w.config.nodes - i))

-- the owner among the nodes from 0 on is the owner
pub owner_whole : (w : World) (x : ℕ) → owner_from w x 0 ≡ owner w x
unfolding owner_from owner
owner_whole w x =
    let all : w.config.nodes - 0 ≡ w.config.nodes = omega arith in
    ap (λ k. first_of (owner_at w x) (numbers_from 0 k)) all

-- if a live node owns the object, then it is the owner among the nodes from it on
pub owner_there : (w : World) (x i : ℕ) → i < w.config.nodes → is_live w i ≡ true → owns (node w i) x ≡ true → owner_from w x i ≡ Some i
unfolding owner_from
owner_there w x i h l o =
    ap (first_of (owner_at w x)) (numbers_next i w.config.nodes h)
    ∙ first_here (owner_at w x) i _ i (where_both (is_live w i) (owns (node w i) x) i l o)

owner_later : (w : World) (x i : ℕ) → i < w.config.nodes → owner_at w x i ≡ None → owner_from w x i ≡ owner_from w x (i + 1)
unfolding owner_from
owner_later w x i h e =
    ap (first_of (owner_at w x)) (numbers_next i w.config.nodes h) ∙ first_later (owner_at w x) i _ e

-- if a node is not live, then the owner among the nodes from it on is that among those behind it
pub owner_not_live : (w : World) (x i : ℕ) → i < w.config.nodes → is_live w i ≡ false → owner_from w x i ≡ owner_from w x (i + 1)
owner_not_live w x i h l = owner_later w x i h (where_first_not (is_live w i) (owns (node w i) x) i l)

-- if a live node does not own the object, then the owner among the nodes from it on is that among those behind it
pub owner_not_owned : (w : World) (x i : ℕ) → i < w.config.nodes → is_live w i ≡ true → owns (node w i) x ≡ false → owner_from w x i ≡ owner_from w x (i + 1)
owner_not_owned w x i h l o = owner_later w x i h (where_second_not (is_live w i) (owns (node w i) x) i l o)

-- past the last node there is no owner
pub owner_past : (w : World) (x i : ℕ) → w.config.nodes ≤ i → owner_from w x i ≡ None
unfolding owner_from
owner_past w x i h =
    let rest : w.config.nodes - i ≡ 0 = omega arith in
    ap (λ k. first_of (owner_at w x) (numbers_from i k)) rest ∙ first_nowhere (owner_at w x) i

-- the latest entry, node by node
rest_at : {A : Type 0} (xs : List A) (i : ℕ) (x : A) → i < length xs → x ≡ get_or xs i x → drop i xs ≡ x ∷ drop (i + 1) xs
rest_at xs i x h e = rw (add-one, drop-cons xs i x h, ← e) refl

newest-cons : (x : ℕ) (e : Entry) (n : Node) (ns : List Node) → newest x e (n ∷ ns) ≡ newest x (newer e (entry n x)) ns
unfolding newest
newest-cons x e n ns = refl

newest-none : (x : ℕ) (e : Entry) → newest x e [] ≡ e
unfolding newest
newest-none x e = refl

newer-below : (a b : Entry) → is_below a.stamp b.stamp ≡ true → newer a b ≡ b
unfolding newer
newer-below a b h = ap (λ (t : Bool). if t then b else a) h

newer-not_below : (a b : Entry) → is_below a.stamp b.stamp ≡ false → newer a b ≡ a
unfolding newer
newer-not_below a b h = ap (λ (t : Bool). if t then b else a) h

newest_at :
    (x i : ℕ) (e f : Entry) (n : Node) (ns : List Node) → i < length ns → n ≡ get_or ns i n → f ≡ entry n x
    → newest x e (drop i ns) ≡ newest x (newer e f) (drop (i + 1) ns)
newest_at x i e f n ns h g s =
    ap (newest x e) (rest_at ns i n h g) ∙ newest-cons x e n _ ∙ ap (λ (k : Entry). newest x (newer e k) (drop (i + 1) ns)) (sym s)

-- if the entry of the node at an index is newer, then the newest from there on is the newest behind it, from that entry on
pub newest_newer :
    (x i : ℕ) (e f : Entry) (n : Node) (ns : List Node) → i < length ns → n ≡ get_or ns i n → f ≡ entry n x → is_below e.stamp f.stamp ≡ true
    → newest x e (drop i ns) ≡ newest x f (drop (i + 1) ns)
newest_newer x i e f n ns h g s b =
    newest_at x i e f n ns h g s ∙ ap (λ (k : Entry). newest x k (drop (i + 1) ns)) (newer-below e f b)

-- if the entry of the node at an index is not newer, then the newest from there on is the newest behind it
pub newest_older :
    (x i : ℕ) (e f : Entry) (n : Node) (ns : List Node) → i < length ns → n ≡ get_or ns i n → f ≡ entry n x → is_below e.stamp f.stamp ≡ false
    → newest x e (drop i ns) ≡ newest x e (drop (i + 1) ns)
newest_older x i e f n ns h g s b =
    newest_at x i e f n ns h g s ∙ ap (λ (k : Entry). newest x k (drop (i + 1) ns)) (newer-not_below e f b)

-- from the entry of node 0 on, the newest among all nodes is the latest entry
pub newest_whole : (w : World) (x : ℕ) (n : Node) (e : Entry) → 1 ≤ length w.nodes → n ≡ get_or w.nodes 0 n → e ≡ entry n x → newest x e w.nodes ≡ latest_entry w x
unfolding latest_entry
newest_whole w x n e h g s =
    ap (λ (k : Entry). newest x k w.nodes) (s ∙ ap (λ (m : Node). entry m x) (node_there w.nodes 0 n (omega arith) g))

-- past the last node the newest is the one found so far
pub newest_past : (x i : ℕ) (e : Entry) (ns : List Node) → length ns ≤ i → newest x e (drop i ns) ≡ e
newest_past x i e ns h = ap (newest x e) (drop_all i ns h) ∙ newest-none x e

-- whether an object is lost, replica by replica
pub lost_whole : (w : World) (x : ℕ) (p : Place) (ns : List ℕ) → ns ≡ p.replicas → p ≡ latest_place w x → no_nodes (live_among w ns) ≡ is_lost w x
unfolding is_lost
lost_whole w x p ns e f = ap (λ ms. no_nodes (live_among w ms)) (e ∙ ap (λ (q : Place). q.replicas) f)

-- if the head node of a list is live, then some are live
pub lost_live : (w : World) (ns ms : List ℕ) (n : ℕ) → ns ≡ n ∷ ms → is_live w n ≡ true → no_nodes (live_among w ns) ≡ false
unfolding live_among no_nodes
lost_live w ns ms n e l =
    ap (λ ks. no_nodes (live_among w ks)) e
    ∙ ap (λ (b : Bool). no_nodes (if b then n ∷ live_among w ms else live_among w ms)) l

-- if the head node of a list is not live, then some are live exactly if some behind it are
pub lost_later : (w : World) (ns ms : List ℕ) (n : ℕ) → ns ≡ n ∷ ms → is_live w n ≡ false → no_nodes (live_among w ns) ≡ no_nodes (live_among w ms)
unfolding live_among
lost_later w ns ms n e l =
    ap (λ ks. no_nodes (live_among w ks)) e
    ∙ ap (λ (b : Bool). no_nodes (if b then n ∷ live_among w ms else live_among w ms)) l

-- of an empty list no node is live
pub lost_end : (w : World) (ns : List ℕ) → ns ≡ [] → no_nodes (live_among w ns) ≡ true
unfolding live_among no_nodes
lost_end w ns e = ap (λ ks. no_nodes (live_among w ks)) e
