-- The points of the history, when a record is changed or a point is added.
use Rattle.std.proofs.Common.{ℕ, zero, suc, ◌≡◌, ◌≢◌, ◌<◌, ◌≤◌, ◌+◌, ◌++◌, ◌⊎◌, inl, inr, List, [], ◌∷◌, Option, Some, None, length, refl, sym, ap, ◌∙◌, arith}
use Rattle.std.specs.List.{slice_get}
use Rattle.zeus_base.specs.TableLaws.{nth-put_same, nth-put_other}
use Rattle.zeus_txn.specs.declared.reply.Reply.{Reply}
use Rattle.zeus_model.specs.Tables.{nth, put}
use Rattle.zeus_model.specs.Book.{Point, TxRecord, no_record, reply_or}
use Rattle.history_book.specs.Books.{ArePointed, IsPointed, point_of, points_of}

-- two numbers are equal or not
pub equal_or_not : (a b : ℕ) → (a ≡ b) ⊎ (a ≢ b)
equal_or_not zero zero = inl refl
equal_or_not zero (suc b) = inr (λ e. omega arith)
equal_or_not (suc a) zero = inr (λ e. omega arith)
equal_or_not (suc a) (suc b) =
    elim (equal_or_not a b) [
      | inl e ↦ inl (ap suc e)
      | inr n ↦ inr (λ e. n (omega arith))
    ]

-- what a changed record has as before, each has as before
pub same_at : {A : Type 0} (f : TxRecord → A) (rs : List TxRecord) (i : ℕ) (r : TxRecord) → f r ≡ f (nth no_record rs i) → (j : ℕ) → f (nth no_record (put no_record rs i r) j) ≡ f (nth no_record rs j)
same_at f rs i r e j = elim (equal_or_not i j) [
  | inl same ↦ rw (← same, nth-put_same no_record rs i r) e
  | inr other ↦ ap f (nth-put_other no_record rs i j r other)
]

-- what holds of the changed record, and of each of the others, holds of each
pub holds_at : (P : TxRecord → Type 0) (rs : List TxRecord) (i : ℕ) (r : TxRecord) → P r → (j : ℕ) → P (nth no_record rs j) → P (nth no_record (put no_record rs i r) j)
holds_at P rs i r e j h = elim (equal_or_not i j) [
  | inl same ↦ rw (← same, nth-put_same no_record rs i r) e
  | inr other ↦ rw (nth-put_other no_record rs i j r other) h
]

same_point : (rs qs : List TxRecord) (id : ℕ) → (nth no_record qs id).reply ≡ (nth no_record rs id).reply → point_of qs id ≡ point_of rs id
unfolding point_of
same_point rs qs id e = rw e refl

-- the history stays where the replies of its transactions stay
pub points_stay :
    (rs qs : List TxRecord) (ids : List ℕ) → ArePointed rs ids → ((j : ℕ) → IsPointed (nth no_record rs j) → (nth no_record qs j).reply ≡ (nth no_record rs j).reply)
    → points_of qs ids ≡ points_of rs ids
unfolding points_of ArePointed
points_stay rs qs [] h e = refl
points_stay rs qs (id ∷ ids) h e =
    ap (λ (p : Point). p ∷ points_of qs ids) (same_point rs qs id (e id h.0))
    ∙ ap (λ (ps : List Point). point_of rs id ∷ ps) (points_stay rs qs ids h.1 e)

-- if each record that had a point has one after a change, then all transactions of the history do
pub pointed_stay : (rs qs : List TxRecord) (ids : List ℕ) → ArePointed rs ids → ((j : ℕ) → IsPointed (nth no_record rs j) → IsPointed (nth no_record qs j)) → ArePointed qs ids
unfolding ArePointed
pointed_stay rs qs [] h e = tt
pointed_stay rs qs (id ∷ ids) h e = (e id h.0, pointed_stay rs qs ids h.1 e)

-- the points of one more transaction stand behind those of the others
pub points-append : (rs : List TxRecord) (ids : List ℕ) (id : ℕ) → points_of rs (ids ++ id ∷ []) ≡ points_of rs ids ++ point_of rs id ∷ []
unfolding points_of
points-append rs [] id = refl
points-append rs (x ∷ ids) id = ap (λ (ps : List Point). point_of rs x ∷ ps) (points-append rs ids id)

-- if all transactions of the history have points and one more does, then so do all with it
pub pointed-append : (rs : List TxRecord) (ids : List ℕ) (id : ℕ) → ArePointed rs ids → IsPointed (nth no_record rs id) → ArePointed rs (ids ++ id ∷ [])
unfolding ArePointed
pointed-append rs [] id h p = (p, tt)
pointed-append rs (x ∷ ids) id h p = (h.0, pointed-append rs ids id h.1 p)

-- the history has as many points as transactions
pub length-points : (rs : List TxRecord) (ids : List ℕ) → length (points_of rs ids) ≡ length ids
unfolding points_of
length-points rs [] = refl
length-points rs (x ∷ ids) = ap suc (length-points rs ids)

-- the point at a place is that of its transaction
pub point_there : (rs : List TxRecord) (ids : List ℕ) (k id : ℕ) → Some id ≡ slice_get ids k → slice_get (points_of rs ids) k ≡ Some (point_of rs id)
unfolding points_of
point_there rs [] k id e = cc
point_there rs (x ∷ ids) zero id e = let same : id ≡ x = cc in rw same refl
point_there rs (x ∷ ids) (suc k) id e = point_there rs ids k id e

-- if a transaction stands in the history, then it has its point and a reply
pub pointed_there : (rs : List TxRecord) (ids : List ℕ) (k id : ℕ) → ArePointed rs ids → Some id ≡ slice_get ids k → IsPointed (nth no_record rs id)
unfolding ArePointed
pointed_there rs [] k id h e = cc
pointed_there rs (x ∷ ids) zero id h e = let same : id ≡ x = cc in rw same h.0
pointed_there rs (x ∷ ids) (suc k) id h e = pointed_there rs ids k id h.1 e

-- if no transaction stands at a place, then the place is past the end
pub none_there : (ids : List ℕ) (k : ℕ) → None ≡ slice_get ids k → length ids ≤ k
none_there [] k e = omega arith
none_there (x ∷ ids) zero e = cc
none_there (x ∷ ids) (suc k) e = let m = none_there ids k e in omega arith

-- the point of a transaction with a reply
pub point_replied : (rs : List TxRecord) (id : ℕ) (reply : Reply) → Some reply ≡ (nth no_record rs id).reply → point_of rs id ≡ record { id = id; reply = reply }
unfolding point_of reply_or
point_replied rs id reply e = rw (← e) refl
