-- Requests for objects, one after another.
use Rattle.std.proofs.Common.{All, ℕ, ◌+◌, ◌≡◌, ◌≤◌, ◌<◌, Bool, true, false, List, [], ◌∷◌, ◌++◌, Option, Some, None, length, take, drop, refl, sym, ◌∙◌, add-one, drop-cons, append-nil}
use Rattle.std.specs.Prelude.{not, nat_lt, is_none}
use Rattle.std.specs.Prelude.{cond, ◌==◌}
use Rattle.std.specs.Option.{is_some}
use Rattle.std.specs.Ordering.{is_ge, nat_cmp}
use Rattle.std.specs.declared.cmp.Ordering.TheVariants.{Less, Equal, Greater}
use Rattle.std.proofs.Math.ListN.{get_or}
use Rattle.std.proofs.lemmas.List.{drop_all, take_all}
use Rattle.zeus_packet.specs.declared.letter.Body.TheVariants.{OReq}
use Rattle.zeus_packet.specs.declared.letter.Letter.{Letter}
use Rattle.zeus_packet.specs.declared.place.Want.{Want}
use Rattle.zeus_packet.specs.declared.place.Want.TheVariants.{Own, Read}
use Rattle.zeus_base.specs.declared.config.Limits.{Limits}
use Rattle.zeus_txn.specs.Ops.{named}
use Rattle.zeus_model.specs.declared.state.Current.{Current}
use Rattle.zeus_model.specs.declared.state.Copy.{Copy}
use Rattle.zeus_model.specs.Act.{letter}
use Rattle.zeus_model.specs.Local.{ask, driver, least_from, not_copied, not_owned, requests}
use Rattle.zeus_model.specs.State.{Node, copy, owns}
use Rattle.zeus_model.specs.Tables.{first_of, or_else, where_true}
use Rattle.node_state.specs.declared.effect.Effect.{Effect}
use Rattle.node_ranges.specs.Ranges.{FitsCurrent}
use Rattle.node_state.specs.Done.{Adds}
use Rattle.node_state.specs.Requests.{requests_for_copies, requests_to_own}
use Rattle.node_state.specs.EffectLaws.{cut-append}

-- ---- the driver

ge_is : (a b : ℕ) → is_ge (nat_cmp a b) ≡ not (nat_lt a b)
ge_is a b =
    elim (nat_lt a b) as (λ t. is_ge (cond t Less (cond (a == b) Equal Greater)) ≡ not t) [
      | true ↦ refl
      | false ↦ elim (a == b) as (λ u. is_ge (cond u Equal Greater) ≡ true) [ true ↦ refl | false ↦ refl ]
    ]

-- the next node is not below this one
pub from_here : (me n : ℕ) (ns left : List ℕ) (b : Bool) → left ≡ n ∷ ns → b ≡ is_ge (nat_cmp n me) → b ≡ true → least_from me left ≡ Some n
unfolding least_from first_of or_else where_true
from_here me n ns left b e test here =
    let at : not (nat_lt n me) ≡ true = sym (ge_is n me) ∙ sym test ∙ here in
    rw (e, at) refl

-- the next node is below this one
pub from_later : (me n : ℕ) (ns left : List ℕ) (b : Bool) → left ≡ n ∷ ns → b ≡ is_ge (nat_cmp n me) → b ≡ false → least_from me ns ≡ least_from me left
unfolding least_from first_of or_else where_true
from_later me n ns left b e test later =
    let at : not (nat_lt n me) ≡ false = sym (ge_is n me) ∙ sym test ∙ later in
    rw (e, at) refl

-- if no node is left to search, then the search found what it has so far
pub from_none : (me : ℕ) (left : List ℕ) (o : Option ℕ) → left ≡ [] → o ≡ or_else (least_from me left) o
unfolding least_from first_of or_else
from_none me left o e = rw e refl

-- a search that has found a node has found it, whatever else there is
pub from_some : (n : ℕ) (o : Option ℕ) → Some n ≡ or_else (Some n) o
unfolding or_else
from_some n o = refl

-- ---- requests

-- to nobody goes nothing
pub ask-nobody : (n : Node) (want : Want) (xs : List ℕ) → driver n ≡ None → requests n want xs ≡ []
unfolding ask
ask-nobody n want xs e = rw e refl

-- if a node knows its driver, then the request for one object is one letter to it
pub ask-one : (n : Node) (want : Want) (x d : ℕ) → driver n ≡ Some d → requests n want (x ∷ []) ≡ letter n d (OReq x want) ∷ []
unfolding ask
ask-one n want x d e = rw e refl

ask-none : (n : Node) (want : Want) (o : Option ℕ) → ask n want [] o ≡ []
unfolding ask
ask-none n want None = refl
ask-none n want (Some d) = refl

ask-cons : (n : Node) (want : Want) (x : ℕ) (xs : List ℕ) (o : Option ℕ) → ask n want (x ∷ xs) o ≡ ask n want (x ∷ []) o ++ ask n want xs o
unfolding ask
ask-cons n want x xs None = refl
ask-cons n want x xs (Some d) = refl

-- ---- one step of a loop over objects

drop_here : (xs : List ℕ) (i x : ℕ) → i < length xs → x ≡ get_or xs i x → drop i xs ≡ x ∷ drop (i + 1) xs
drop_here xs i x h e = rw (add-one, drop-cons xs i x h, ← e) refl

-- if a place is past the last object, then no request to own is left
pub owned_none : (n : Node) (want : Want) (xs : List ℕ) (i : ℕ) → length xs ≤ i → requests n want (not_owned n (drop i xs)) ≡ []
unfolding not_owned
owned_none n want xs i h = rw (drop_all i xs h) (ask-none n want (driver n))

-- if the node owns the object at a place, then the requests to own from there are those for the objects behind it
pub owned_here : (n : Node) (want : Want) (xs : List ℕ) (i x : ℕ) → i < length xs → x ≡ get_or xs i x → owns n x ≡ true → requests n want (not_owned n (drop (i + 1) xs)) ≡ requests n want (not_owned n (drop i xs))
unfolding not_owned
owned_here n want xs i x h e is = rw (drop_here xs i x h e, is) refl

-- if the node does not own the object at a place, then the requests from there are the one for it and those for the objects behind it
pub unowned_here : (n : Node) (want : Want) (xs : List ℕ) (i x : ℕ) → i < length xs → x ≡ get_or xs i x → owns n x ≡ false → requests n want (x ∷ []) ++ requests n want (not_owned n (drop (i + 1) xs)) ≡ requests n want (not_owned n (drop i xs))
unfolding not_owned
unowned_here n want xs i x h e is = rw (drop_here xs i x h e, is) (sym (ask-cons n want x (not_owned n (drop (i + 1) xs)) (driver n)))

-- if a place is past the last object, then no request for a copy is left
pub copied_none : (n : Node) (want : Want) (xs : List ℕ) (i : ℕ) → length xs ≤ i → requests n want (not_copied n (drop i xs)) ≡ []
unfolding not_copied
copied_none n want xs i h = rw (drop_all i xs h) (ask-none n want (driver n))

-- if the node has a copy of the object at a place, then the requests from there are those for the objects behind it
pub copied_here : (n : Node) (want : Want) (xs : List ℕ) (i x : ℕ) → i < length xs → x ≡ get_or xs i x → is_none (copy n x) ≡ false → requests n want (not_copied n (drop (i + 1) xs)) ≡ requests n want (not_copied n (drop i xs))
unfolding not_copied
copied_here n want xs i x h e is = rw (drop_here xs i x h e, is) refl

-- if the node has no copy of the object at a place, then the requests from there are the one for it and those for the others
pub uncopied_here : (n : Node) (want : Want) (xs : List ℕ) (i x : ℕ) → i < length xs → x ≡ get_or xs i x → is_none (copy n x) ≡ true → requests n want (x ∷ []) ++ requests n want (not_copied n (drop (i + 1) xs)) ≡ requests n want (not_copied n (drop i xs))
unfolding not_copied
uncopied_here n want xs i x h e is = rw (drop_here xs i x h e, is) (sym (ask-cons n want x (not_copied n (drop (i + 1) xs)) (driver n)))

-- some letters are sent, and others are left
pub letters_step : (xs ys zs : List Letter) (a b : Effect) → Adds xs [] a b → xs ++ ys ≡ zs → take 64 (b.sent ++ ys) ≡ take 64 (a.sent ++ zs)
letters_step xs ys zs a b f e = rw (f.letters, ← e) (cut-append a.sent xs ys)

-- none is left
pub letters_end : (xs ys : List Letter) (a b : Effect) → ys ≡ [] → take 64 (b.sent ++ ys) ≡ take 64 (a.sent ++ xs) → b.passed ≡ a.passed → length b.sent ≤ 64 → Adds xs [] a b
letters_end xs ys a b none same passes room =
    let cut : take 64 (b.sent ++ []) ≡ b.sent = take_all 64 (b.sent ++ []) (rw append-nil room) ∙ append-nil b.sent in
    record {
      letters = sym cut ∙ rw none at same;
      passes = passes ∙ sym (append-nil a.passed);
    }

-- the test of a look for a copy
is_none-not : (o : Option Copy) (b : Bool) → is_some o ≡ not b → is_none o ≡ b
is_none-not None true e = refl
is_none-not None false e = cc
is_none-not (Some c) true e = cc
is_none-not (Some c) false e = refl

-- if a test tells whether there is a copy, then its opposite tells that there is none
pub uncopied_by : (o p : Option Copy) (b v : Bool) → is_some o ≡ not b → o ≡ p → b ≡ v → is_none p ≡ v
uncopied_by o p b v e same test = rw (← same) (is_none-not o b e) ∙ test

-- ---- what a current transaction needs

-- if a slot has no current transaction, then there are no requests to own for it
pub to_own-none : (n : Node) (c : Option Current) → c ≡ None → requests_to_own n c ≡ []
unfolding requests_to_own
to_own-none n c e = rw e refl

-- if a slot has a current transaction, then the requests to own are for the objects that it names and the node does not own
pub to_own-some : (n : Node) (c : Option Current) (d : Current) → c ≡ Some d → requests_to_own n c ≡ requests n Own (not_owned n (named d.tx))
unfolding requests_to_own
to_own-some n c d e = rw e refl

-- if a slot has no current transaction, then there are no requests for copies
pub for_copies-none : (n : Node) (c : Option Current) → c ≡ None → requests_for_copies n c ≡ []
unfolding requests_for_copies
for_copies-none n c e = rw e refl

-- if a slot has a current transaction, then the requests are for the objects that it names and the node has no copy of
pub for_copies-some : (n : Node) (c : Option Current) (d : Current) → c ≡ Some d → requests_for_copies n c ≡ requests n Read (not_copied n (named d.tx))
unfolding requests_for_copies
for_copies-some n c d e = rw e refl

-- a current transaction that fits names objects that there are
pub current_named_of : (limits : Limits) (c : Option Current) (d : Current) → c ≡ Some d → FitsCurrent limits c → All (λ x. x < limits.objects) (named d.tx)
unfolding FitsCurrent
current_named_of limits c d e h = (rw e at h).named
