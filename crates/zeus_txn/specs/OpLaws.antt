-- Laws of what operations name and write.
use Rattle.std.specs.Prelude.{ℕ, true, false, ◌||◌, ◌==◌, ◌≡◌, ◌≤◌, List, [], ◌∷◌, ◌++◌, length, refl}
use Rattle.std.specs.List.{list_any}
use Rattle.std.proofs.Common.{arith, ap, length-append}
use Rattle.std.proofs.lemmas.Bool.{cond_both}
use Rattle.std.proofs.lemmas.Bool.Decides.{nat_tests}
use Rattle.zeus_txn.specs.Ops.{object_of, stores, mentions, mentioned, named_after, named, is_write}
use Rattle.zeus_txn.specs.declared.ops.Op.{Op}

-- a transaction is a write just if one of its operations stores
pub is_write-any : (ops : List Op) → is_write ops ≡ list_any stores ops
unfolding is_write
is_write-any [] = refl
is_write-any (op ∷ ops) = ap (λ b. stores op || b) (is_write-any ops)

-- a list mentions a number just if one of its elements equals it
pub mentions-any : (x : ℕ) (xs : List ℕ) → mentions x xs ≡ list_any (λ y. x == y) xs
unfolding mentions
mentions-any x [] = refl
mentions-any x (y ∷ ys) = ap (λ b. (x == y) || b) (mentions-any x ys)

-- ---- the object that comes to a list is in it, and all others are in it as before

-- two lists put together mention a number just if one of them does
pub mentions-append : (x : ℕ) (xs ys : List ℕ) → mentions x (xs ++ ys) ≡ (mentions x xs || mentions x ys)
unfolding mentions
mentions-append x [] ys = refl
mentions-append x (y ∷ xs) ys = grind (arith, mentions-append x xs ys)

-- a list of one element mentions just that element
pub mentions-one : (x y : ℕ) → mentions x (y ∷ []) ≡ (x == y)
unfolding mentions
mentions-one x y = grind arith

-- a list with a number added mentions that number and those that it mentioned before
pub mentions-mentioned : (x y : ℕ) (xs : List ℕ) → mentions x (mentioned xs y) ≡ ((x == y) || mentions x xs)
unfolding mentioned
mentions-mentioned x y xs = grind (arith, nat_tests, mentions-append x xs (y ∷ []), mentions-one x y)

-- a number that was added is mentioned
pub mentions-mentioned_same : (x : ℕ) (xs : List ℕ) → mentions x (mentioned xs x) ≡ true
mentions-mentioned_same x xs = grind (arith, nat_tests, mentions-mentioned x x xs)

-- a number that was mentioned is so after another is added
pub mentions-mentioned_old : (x y : ℕ) (xs : List ℕ) → mentions x xs ≡ true → mentions x (mentioned xs y) ≡ true
mentions-mentioned_old x y xs h = grind (arith, nat_tests, mentions-mentioned x y xs)

-- if a number is not mentioned, then adding it puts it at the end
pub mentioned-new : (x : ℕ) (xs : List ℕ) → mentions x xs ≡ false → mentioned xs x ≡ xs ++ x ∷ []
unfolding mentioned
mentioned-new x xs h = rw h refl

-- if a number is mentioned, then adding it changes nothing
pub mentioned-old : (x : ℕ) (xs : List ℕ) → mentions x xs ≡ true → mentioned xs x ≡ xs
unfolding mentioned
mentioned-old x xs h = rw h refl

-- adding a number does not make a list shorter
pub length-mentioned : (x : ℕ) (xs : List ℕ) → length xs ≤ length (mentioned xs x)
unfolding mentioned
length-mentioned x xs =
    cond_both (mentions x xs) xs (xs ++ x ∷ []) (λ (ys : List ℕ). length xs ≤ length ys) (λ _. omega arith) (λ _. omega (arith, length-append xs (x ∷ [])))

-- ---- each operation's object is among those that are named

-- the objects of the operations are in the list
unfoldable pub AllIn : List ℕ → List Op → Type 0
AllIn xs [] = Unit {0}
AllIn xs (op ∷ ops) = (mentions (object_of op) xs ≡ true) × AllIn xs ops

-- an object that was named is so after more operations
pub named_after-old : (x : ℕ) (xs : List ℕ) (ops : List Op) → mentions x xs ≡ true → mentions x (named_after xs ops) ≡ true
unfolding named_after
named_after-old x xs [] h = h
named_after-old x xs (op ∷ ops) h = named_after-old x (mentioned xs (object_of op)) ops (mentions-mentioned_old x (object_of op) xs h)

-- after a walk over operations, each of their objects is named
pub named_after-all : (xs : List ℕ) (ops : List Op) → AllIn (named_after xs ops) ops
unfolding named_after AllIn
named_after-all xs [] = tt
named_after-all xs (op ∷ ops) =
    let next = mentioned xs (object_of op) in
    (named_after-old (object_of op) next ops (mentions-mentioned_same (object_of op) xs), named_after-all next ops)

-- a transaction names the object of each of its operations
pub named-all : (ops : List Op) → AllIn (named ops) ops
unfolding named
named-all ops = named_after-all [] ops

-- a walk over operations does not make the list of names shorter
pub length-named_after : (xs : List ℕ) (ops : List Op) → length xs ≤ length (named_after xs ops)
unfolding named_after
length-named_after xs [] = omega arith
length-named_after xs (op ∷ ops) = omega (arith, length-mentioned (object_of op) xs, length-named_after (mentioned xs (object_of op)) ops)

-- searching a list with the sides of the equality swapped finds the same
pub contains-mentions : (x : ℕ) (xs : List ℕ) → list_any (λ y. y == x) xs ≡ mentions x xs
unfolding mentions
contains-mentions x [] = refl
contains-mentions x (y ∷ ys) = let rest = contains-mentions x ys in grind (arith, nat_tests)
