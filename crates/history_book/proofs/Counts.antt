-- How many records pass a test, when one of them is changed.
use Rattle.std.proofs.Common.{ℕ, zero, suc, ◌≡◌, ◌<◌, ◌≤◌, ◌+◌, Bool, true, false, List, [], ◌∷◌, length, refl, arith}
use Rattle.std.specs.Prelude.{if◌then◌else◌}
use Rattle.zeus_model.specs.Tables.{nth, put}
use Rattle.zeus_model.specs.Book.{TxRecord, no_record}
use Rattle.history_book.specs.Books.{how_many}
use Rattle.history_book.specs.Ids.{one}

either : (b : Bool) (n : ℕ) → (if b then suc n else n) ≡ one b + n
unfolding one
either true n = omega arith
either false n = omega arith

how_many-cons : (test : TxRecord → Bool) (r : TxRecord) (rs : List TxRecord) → how_many test (r ∷ rs) ≡ one (test r) + how_many test rs
unfolding how_many
how_many-cons test r rs = either (test r) (how_many test rs)

-- when a record is changed, the count of those that pass a test changes by this record alone
pub how_many-put : (test : TxRecord → Bool) (rs : List TxRecord) (i : ℕ) (r : TxRecord) → i < length rs
    → how_many test (put no_record rs i r) + one (test (nth no_record rs i)) ≡ how_many test rs + one (test r)
unfolding nth put
how_many-put test [] i r h = absurd (omega arith)
how_many-put test (x ∷ rs) zero r h =
    let a = how_many-cons test r rs in
    let b = how_many-cons test x rs in
    omega arith
how_many-put test (x ∷ rs) (suc i) r h =
    let a = how_many-cons test x (put no_record rs i r) in
    let b = how_many-cons test x rs in
    let e = how_many-put test rs i r (omega arith) in
    omega arith

one-true : (b : Bool) → b ≡ true → one b ≡ 1
unfolding one
one-true b e = rw e refl

one-false : (b : Bool) → b ≡ false → one b ≡ 0
unfolding one
one-false b e = rw e refl

-- a record that passed and does not pass any more is one less
pub one_less : (test : TxRecord → Bool) (rs : List TxRecord) (i : ℕ) (r : TxRecord) → i < length rs → test (nth no_record rs i) ≡ true → test r ≡ false
    → how_many test (put no_record rs i r) + 1 ≡ how_many test rs
one_less test rs i r h a b =
    let e = how_many-put test rs i r h in
    let f = one-true (test (nth no_record rs i)) a in
    let g = one-false (test r) b in
    omega arith

-- a record that does not pass makes no more
pub no_more : (test : TxRecord → Bool) (rs : List TxRecord) (i : ℕ) (r : TxRecord) → i < length rs → test r ≡ false
    → how_many test (put no_record rs i r) ≤ how_many test rs
no_more test rs i r h b =
    let e = how_many-put test rs i r h in
    let g = one-false (test r) b in
    omega arith

-- a record that passes as before makes no difference
pub as_many : (test : TxRecord → Bool) (rs : List TxRecord) (i : ℕ) (r : TxRecord) → i < length rs → test r ≡ test (nth no_record rs i)
    → how_many test (put no_record rs i r) ≡ how_many test rs
as_many test rs i r h b =
    let e = how_many-put test rs i r h in
    let f : one (test r) ≡ one (test (nth no_record rs i)) = rw b refl in
    omega arith

-- where one passes, there is one
pub some_left : (test : TxRecord → Bool) (rs : List TxRecord) (i : ℕ) → i < length rs → test (nth no_record rs i) ≡ true → 0 < how_many test rs
unfolding nth
some_left test [] i h a = absurd (omega arith)
some_left test (x ∷ rs) zero h a =
    let b = how_many-cons test x rs in
    let f = one-true (test x) a in
    omega arith
some_left test (x ∷ rs) (suc i) h a =
    let b = how_many-cons test x rs in
    let more = some_left test rs i (omega arith) a in
    omega arith

one-most : (b : Bool) → one b ≤ 1
unfolding one
one-most true = omega arith
one-most false = omega arith

-- no more pass than there are
pub how_many-most : (test : TxRecord → Bool) (rs : List TxRecord) → how_many test rs ≤ length rs
how_many-most test [] = unfold how_many in omega arith
how_many-most test (x ∷ rs) =
    let b = how_many-cons test x rs in
    let m = one-most (test x) in
    let more = how_many-most test rs in
    omega arith
