-- The merge of lists has all of their elements, those of each list in their order, and its clocks rise.
use Rattle.std.specs.Prelude.{ℕ, zero, suc, ◌≡◌, ◌+◌, ◌<◌, ◌≤◌, Bool, true, false, nat_lt, List, [], ◌∷◌, ◌++◌, length, map, Option, Some, None, ◌⊎◌, if◌then◌else◌}
use Rattle.std.proofs.Common.{arith, refl, sym, ap, ◌∙◌, inl, inr, append_assoc, length-append}
use Rattle.std.proofs.lemmas.List.{length-map}
use Rattle.std.proofs.lemmas.Bool.{cond_both, ltb-true, ltb-false}
use Rattle.zeus_model.specs.In.{In, here, there}
use Rattle.zeus_model.specs.InLaws.{In-append_left, In-append_right, In-append}
use Rattle.machine_moves.specs.SystemState.{all_of}
use Rattle.machine_moves.proofs.Lists.{In-nothing}
use Rattle.live_replay.specs.Parts.{part}
use Rattle.live_replay.specs.Replayed.{Rises}
use Rattle.live_model.specs.Merge.{Pick, behind_empty, earlier, pick, first_in, rest_in, merge_of, merge, count_all}

-- ---- what a function finds in a list

-- the part of two lists put together is that of the first and then that of the second
pub part-append : {A B : Type 0} (f : A → List B) (xs ys : List A) → part f (xs ++ ys) ≡ part f xs ++ part f ys
unfolding part
part-append f [] ys = refl
part-append {B = B} f (x ∷ xs) ys = ap (λ (zs : List B). f x ++ zs) (part-append f xs ys) ∙ sym (append_assoc (f x) (part f xs) (part f ys))

abbrev pub Silent : {A B : Type 0} → (A → List B) → List A → Type 0
Silent {A} f xs = (x : A) → In x xs → f x ≡ []

-- if nothing of a list is of a part, then the part is empty
pub silent-part : {A B : Type 0} (f : A → List B) (xs : List A) → Silent f xs → part f xs ≡ []
unfolding part
silent-part f [] h = refl
silent-part f (x ∷ xs) h = rw (h x (here x xs refl)) (silent-part f xs (λ y is. h y (there x xs is)))

-- the function finds something in one of the lists at most
unfoldable pub Apart : {A B : Type 0} → (A → List B) → List (List A) → Type 0
Apart f [] = Unit {0}
Apart f (l ∷ ls) = (Silent f l × Apart f ls) ⊎ Silent f (all_of ls)

silent-apart : {A B : Type 0} (f : A → List B) (ls : List (List A)) → Silent f (all_of ls) → Apart f ls
unfolding Apart all_of
silent-apart f [] h = tt
silent-apart f (l ∷ ls) h = inr (λ x is. h x (In-append_right x l (all_of ls) is))

-- ---- rising clocks

unfoldable pub EachRises : {A : Type 0} → (A → ℕ) → List (List A) → Type 0
EachRises clock [] = Unit {0}
EachRises clock (l ∷ ls) = Rises clock l × EachRises clock ls

-- ---- what is picked

pub record IsPicked {A B : Type 0} (f : A → List B) (clock : A → ℕ) (ls : List (List A)) (p : Pick A) : Type 0 where
  pub is : In p.first (all_of ls)
  pub only : (x : A) → In x (all_of p.rest) → In x (all_of ls)
  pub count : length (all_of ls) ≡ suc (length (all_of p.rest))
  pub least : EachRises clock ls → (x : A) → In x (all_of ls) → clock p.first ≤ clock x
  pub rises : EachRises clock ls → EachRises clock p.rest
  pub apart : Apart f ls → Apart f p.rest
  pub found : Apart f ls → part f (all_of ls) ≡ f p.first ++ part f (all_of p.rest)

unfoldable Picked : {A B : Type 0} → (A → List B) → (A → ℕ) → List (List A) → Option (Pick A) → Type 0
Picked f clock ls None = all_of ls ≡ []
Picked f clock ls (Some p) = IsPicked f clock ls p

behind_empty-picked : {A B : Type 0} (f : A → List B) (clock : A → ℕ) (ls : List (List A)) (o : Option (Pick A)) → Picked f clock ls o → Picked f clock ([] ∷ ls) (behind_empty o)
unfolding behind_empty Picked all_of EachRises Apart
behind_empty-picked f clock ls None h = h
behind_empty-picked f clock ls (Some p) h =
    record {
      is = h.is;
      only = h.only;
      count = h.count;
      least = λ r x is. h.least r.1 x is;
      rises = λ r. (r.0, h.rises r.1);
      apart = λ a. elim a [
        | inl both ↦ inl (both.0, h.apart both.1)
        | inr silent ↦ inl (λ x is. In-nothing x is, h.apart (silent-apart f ls silent))
      ];
      found = λ a. elim a [
        | inl both ↦ h.found both.1
        | inr silent ↦ h.found (silent-apart f ls silent)
      ];
    }

head-picked : {A B : Type 0} (f : A → List B) (clock : A → ℕ) (x : A) (xs : List A) (ls : List (List A)) → (EachRises clock ls → (y : A) → In y (all_of ls) → clock x ≤ clock y)
    → IsPicked f clock ((x ∷ xs) ∷ ls) record { first = x; rest = xs ∷ ls }
unfolding all_of EachRises Rises Apart part
head-picked {A = A} f clock x xs ls least =
    record {
      is = here x (xs ++ all_of ls) refl;
      only = λ y is. there x (xs ++ all_of ls) is;
      count = refl;
      least = λ r y is. head_least r y is;
      rises = λ r. (r.0.1, r.1);
      apart = λ a. elim a [
        | inl both ↦ inl (λ y is. both.0 y (there x xs is), both.1)
        | inr silent ↦ inr silent
      ];
      found = λ a. refl;
    }
  where
    head_least : (((y : A) → In y xs → clock x ≤ clock y) × Rises clock xs) × EachRises clock ls → (y : A) → In y (x ∷ (xs ++ all_of ls)) → clock x ≤ clock y
    head_least r y (here _ _ e) = let same : clock y ≡ clock x = ap clock e in omega arith
    head_least r y (there _ _ is) = elim (In-append y xs (all_of ls) is) [ inl own ↦ r.0.0 y own | inr other ↦ least r.1 y other ]

tail-found : {A B : Type 0} (f : A → List B) (l : List A) (ls rest : List (List A)) (first : A) → In first (all_of ls) → ((y : A) → In y (all_of rest) → In y (all_of ls))
    → (Apart f ls → part f (all_of ls) ≡ f first ++ part f (all_of rest)) → (Silent f l × Apart f ls) ⊎ Silent f (all_of ls)
    → part f (l ++ all_of ls) ≡ f first ++ part f (l ++ all_of rest)
tail-found f l ls rest first is only found (inl both) =
    rw (part-append f l (all_of ls), part-append f l (all_of rest), silent-part f l both.0) (found both.1)
tail-found f l ls rest first is only found (inr silent) =
    rw (part-append f l (all_of ls), part-append f l (all_of rest), silent first is, silent-part f (all_of ls) silent, silent-part f (all_of rest) (λ y at. silent y (only y at))) refl

tail-picked : {A B : Type 0} (f : A → List B) (clock : A → ℕ) (x : A) (xs : List A) (ls : List (List A)) (p : Pick A) → IsPicked f clock ls p → clock p.first < clock x
    → IsPicked f clock ((x ∷ xs) ∷ ls) record { first = p.first; rest = (x ∷ xs) ∷ p.rest }
unfolding all_of EachRises Rises Apart
tail-picked {A = A} f clock x xs ls p h less =
    record {
      is = In-append_right p.first (x ∷ xs) (all_of ls) h.is;
      only = λ y is. elim (In-append y (x ∷ xs) (all_of p.rest) is) [
        | inl own ↦ In-append_left y (x ∷ xs) (all_of ls) own
        | inr other ↦ In-append_right y (x ∷ xs) (all_of ls) (h.only y other)
      ];
      count = let a : length (xs ++ all_of ls) ≡ length xs + length (all_of ls) = length-append xs (all_of ls) in
          let b : length (xs ++ all_of p.rest) ≡ length xs + length (all_of p.rest) = length-append xs (all_of p.rest) in
          let c = h.count in omega arith;
      least = λ r y is. elim (In-append y (x ∷ xs) (all_of ls) is) [
        | inl own ↦ own_least r.0 y own
        | inr other ↦ h.least r.1 y other
      ];
      rises = λ r. (r.0, h.rises r.1);
      apart = λ a. elim a [
        | inl both ↦ inl (both.0, h.apart both.1)
        | inr silent ↦ inr (λ y is. silent y (h.only y is))
      ];
      found = tail-found f (x ∷ xs) ls p.rest p.first h.is h.only h.found;
    }
  where
    own_least : ((y : A) → In y xs → clock x ≤ clock y) × Rises clock xs → (y : A) → In y (x ∷ xs) → clock p.first ≤ clock y
    own_least r y (here _ _ e) = let same : clock y ≡ clock x = ap clock e in omega arith
    own_least r y (there _ _ is) = let le = r.0 y is in omega arith

earlier-picked : {A B : Type 0} (f : A → List B) (clock : A → ℕ) (x : A) (xs : List A) (ls : List (List A)) (o : Option (Pick A)) → Picked f clock ls o
    → Picked f clock ((x ∷ xs) ∷ ls) (earlier clock x xs ls o)
unfolding earlier Picked
earlier-picked f clock x xs ls None h = head-picked f clock x xs ls (λ r y is. In-nothing y (rw h at is))
earlier-picked {A = A} f clock x xs ls (Some p) h =
    cond_both (nat_lt (clock p.first) (clock x)) (Some record { first = p.first; rest = (x ∷ xs) ∷ p.rest }) (Some record { first = x; rest = xs ∷ ls })
    (λ (o : Option (Pick A)). Picked f clock ((x ∷ xs) ∷ ls) o)
    (λ less. tail-picked f clock x xs ls p h (ltb-true (clock p.first) (clock x) less))
    (λ more. head-picked f clock x xs ls (λ r y is. let low = h.least r y is in let le : clock x ≤ clock p.first = ltb-false (clock p.first) (clock x) more in omega arith))

none-picked : {A B : Type 0} (f : A → List B) (clock : A → ℕ) → Picked f clock [] None
unfolding Picked all_of
none-picked f clock = refl

pick-picked : {A B : Type 0} (f : A → List B) (clock : A → ℕ) (ls : List (List A)) → Picked f clock ls (pick clock ls)
unfolding pick
pick-picked f clock [] = none-picked f clock
pick-picked f clock ([] ∷ ls) = behind_empty-picked f clock ls (pick clock ls) (pick-picked f clock ls)
pick-picked f clock ((x ∷ xs) ∷ ls) = earlier-picked f clock x xs ls (pick clock ls) (pick-picked f clock ls)

-- ---- the merge

-- the count of the elements of lists is the length of all of them together
pub count_all-length : {A : Type 0} (ls : List (List A)) → count_all ls ≡ length (all_of ls)
unfolding count_all all_of
count_all-length [] = refl
count_all-length (l ∷ ls) = ap (λ (k : ℕ). length l + k) (count_all-length ls) ∙ sym (length-append l (all_of ls))

no_elements : {A : Type 0} (xs : List A) → length xs ≡ 0 → xs ≡ []
no_elements [] h = refl
no_elements (x ∷ xs) h = absurd (omega arith)

-- what the merge of so many elements has, the rest of them being merged so
pub record IsMerged {A B : Type 0} (f : A → List B) (clock : A → ℕ) (ls : List (List A)) (m : List A) : Type 0 where
  pub only : (x : A) → In x m → In x (all_of ls)
  pub count : length m ≡ length (all_of ls)
  pub rises : EachRises clock ls → Rises clock m
  pub found : Apart f ls → part f m ≡ part f (all_of ls)

nothing-merged : {A B : Type 0} (f : A → List B) (clock : A → ℕ) (ls : List (List A)) → all_of ls ≡ [] → IsMerged f clock ls []
unfolding Rises part
nothing-merged f clock ls none = record { only = λ x is. In-nothing x is; count = rw none refl; rises = λ r. tt; found = λ a. rw none refl }

first-merged : {A B : Type 0} (f : A → List B) (clock : A → ℕ) (ls : List (List A)) (p : Pick A) (m : List A) → IsPicked f clock ls p → IsMerged f clock p.rest m → IsMerged f clock ls (p.first ∷ m)
unfolding Rises part
first-merged {A = A} {B = B} f clock ls p m h rest =
    record {
      only = λ x is. in_all x is;
      count = ap suc rest.count ∙ sym h.count;
      rises = λ r. (λ y is. h.least r y (h.only y (rest.only y is)), rest.rises (h.rises r));
      found = λ a. ap (λ (zs : List B). f p.first ++ zs) (rest.found (h.apart a)) ∙ sym (h.found a);
    }
  where
    in_all : (x : A) → In x (p.first ∷ m) → In x (all_of ls)
    in_all x (here _ _ e) = rw e h.is
    in_all x (there _ _ is) = h.only x (rest.only x is)

picked-merged : {A B : Type 0} (f : A → List B) (clock : A → ℕ) (count : ℕ) (ls : List (List A)) (o : Option (Pick A)) → Picked f clock ls o → length (all_of ls) ≡ suc count
    → ((rest : List (List A)) → length (all_of rest) ≡ count → IsMerged f clock rest (merge_of clock count rest)) → IsMerged f clock ls (first_in o ++ merge_of clock count (rest_in o))
unfolding Picked first_in rest_in
picked-merged {A = A} f clock count ls None h counted rest = let none : length (all_of ls) ≡ 0 = rw h refl in absurd (omega arith)
picked-merged f clock count ls (Some p) h counted rest =
    let less = h.count in first-merged f clock ls p (merge_of clock count p.rest) h (rest p.rest (omega arith))

merge_of-merged : {A B : Type 0} (f : A → List B) (clock : A → ℕ) (count : ℕ) (ls : List (List A)) → length (all_of ls) ≡ count → IsMerged f clock ls (merge_of clock count ls)
unfolding merge_of
merge_of-merged f clock zero ls counted = nothing-merged f clock ls (no_elements (all_of ls) counted)
merge_of-merged f clock (suc count) ls counted =
    picked-merged f clock count ls (pick clock ls) (pick-picked f clock ls) counted (merge_of-merged f clock count)

-- the merge of lists has all of their elements, those of each list in their order, and its clocks rise where theirs do
pub merge-merged : {A B : Type 0} (f : A → List B) (clock : A → ℕ) (ls : List (List A)) → IsMerged f clock ls (merge clock ls)
merge-merged f clock ls = merge_of-merged f clock (count_all ls) ls (sym (count_all-length ls))

-- ---- the merge of other lists with the same clocks

map_pick : {A B : Type 0} → (A → B) → Option (Pick A) → Option (Pick B)
map_pick g None = None
map_pick g (Some p) = Some record { first = g p.first; rest = map (map g) p.rest }

behind_empty-map : {A B : Type 0} (g : A → B) (o : Option (Pick A)) → behind_empty (map_pick g o) ≡ map_pick g (behind_empty o)
unfolding behind_empty map_pick
behind_empty-map g None = refl
behind_empty-map g (Some p) = refl

map_pick-if : {A B : Type 0} (g : A → B) (b : Bool) (p q : Pick A) → ◌≡◌ {A = Option (Pick B)} (if b then map_pick g (Some p) else map_pick g (Some q)) (map_pick g (if b then Some p else Some q))
map_pick-if g true p q = refl
map_pick-if g false p q = refl

earlier-map : {A B : Type 0} (clock : B → ℕ) (g : A → B) (x : A) (xs : List A) (ls : List (List A)) (o : Option (Pick A))
    → earlier clock (g x) (map g xs) (map (map g) ls) (map_pick g o) ≡ map_pick g (earlier (λ y. clock (g y)) x xs ls o)
unfolding earlier map_pick
earlier-map clock g x xs ls None = refl
earlier-map clock g x xs ls (Some p) = map_pick-if g (nat_lt (clock (g p.first)) (clock (g x))) record { first = p.first; rest = (x ∷ xs) ∷ p.rest } record { first = x; rest = xs ∷ ls }

pick-map : {A B : Type 0} (clock : B → ℕ) (g : A → B) (ls : List (List A)) → pick clock (map (map g) ls) ≡ map_pick g (pick (λ y. clock (g y)) ls)
unfolding pick map_pick
pick-map clock g [] = refl
pick-map clock g ([] ∷ ls) = ap behind_empty (pick-map clock g ls) ∙ behind_empty-map g (pick (λ y. clock (g y)) ls)
pick-map {B = B} clock g ((x ∷ xs) ∷ ls) =
    ap (λ (o : Option (Pick B)). earlier clock (g x) (map g xs) (map (map g) ls) o) (pick-map clock g ls) ∙ earlier-map clock g x xs ls (pick (λ y. clock (g y)) ls)

merge_of-map : {A B : Type 0} (clock : B → ℕ) (g : A → B) (count : ℕ) (ls : List (List A)) → merge_of clock count (map (map g) ls) ≡ map g (merge_of (λ y. clock (g y)) count ls)
unfolding merge_of first_in rest_in map_pick
merge_of-map clock g zero ls = refl
merge_of-map {A = A} {B = B} clock g (suc count) ls =
    ap (λ (o : Option (Pick B)). first_in o ++ merge_of clock count (rest_in o)) (pick-map clock g ls) ∙ of_pick (pick (λ y. clock (g y)) ls) (merge_of-map clock g count)
  where
    of_pick : (o : Option (Pick A)) → ((rest : List (List A)) → merge_of clock count (map (map g) rest) ≡ map g (merge_of (λ y. clock (g y)) count rest))
        → first_in (map_pick g o) ++ merge_of clock count (rest_in (map_pick g o)) ≡ map g (first_in o ++ merge_of (λ y. clock (g y)) count (rest_in o))
    of_pick None on = on []
    of_pick (Some p) on = ap (λ (zs : List B). g p.first ∷ zs) (on p.rest)

count_all-map : {A B : Type 0} (g : A → B) (ls : List (List A)) → count_all (map (map g) ls) ≡ count_all ls
unfolding count_all
count_all-map g [] = refl
count_all-map g (l ∷ ls) = rw (length-map l g, count_all-map g ls) refl

-- to map lists and then merge them by clock is to merge them by the clock of the mapped and then map
pub merge-map : {A B : Type 0} (clock : B → ℕ) (g : A → B) (ls : List (List A)) → merge clock (map (map g) ls) ≡ map g (merge (λ y. clock (g y)) ls)
merge-map clock g ls = rw (count_all-map g ls) (merge_of-map clock g (count_all ls) ls)
