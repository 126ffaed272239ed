-- Items behind a head: what they carry, and what the rule says of the next.
use Rattle.std.proofs.Common.{◌≡◌, ℕ, zero, suc, ◌+◌, ◌≤◌, ◌<◌, List, [], ◌∷◌, ◌++◌, length, map, refl, sym, ap, ◌∙◌, subst, arith}
use Rattle.std.proofs.lemmas.List.{length-append}
use mathlib.Core.List.{IsPrefix, head-eq_of_cons-eq, tail-eq_of_cons-eq}
use Rattle.rtrb.specs.Ends.{SameRing}
use Rattle.rtrb.specs.declared.end.End.{End}
use Rattle.rtrb.specs.Ring.{ConsumerLooked, known_items}
use Rattle.rtrb.specs.declared.consumer.Consumer.{Consumer}
use Rattle.link_rings.specs.Ends.{LookedIn}
use Rattle.link_rings.specs.Views.{in_view, ring_of}
use Rattle.link_rings.specs.Items.{AllowedBy, IsHeaded, carried, front}
use Rattle.link_rings.specs.declared.item.Item.{Item}
use Rattle.link_rings.specs.declared.item.Item.TheVariants.{Head, Carried}

module _ (H : Type 0) {T : Type 0} where
  length-map : (xs : List T) → length (map {B = Item H T} Carried xs) ≡ length xs
  length-map [] = refl
  length-map (x ∷ xs) = omega (arith, length-map xs)

  front-map : (xs : List T) → front {H = H} (map Carried xs) ≡ xs
  unfolding front
  front-map [] = refl
  front-map (x ∷ xs) = ap (λ (r : List T). x ∷ r) (front-map xs)

  map-append : (xs ys : List T) → map {B = Item H T} Carried (xs ++ ys) ≡ map Carried xs ++ map Carried ys
  map-append [] ys = refl
  map-append (x ∷ xs) ys = ap (λ (r : List (Item H T)). Carried x ∷ r) (map-append xs ys)

module _ {H T : Type 0} where
  carried-append : (xs ys : List (Item H T)) → carried (xs ++ ys) ≡ carried xs ++ carried ys
  unfolding carried
  carried-append [] ys = refl
  carried-append (Head h ∷ xs) ys = carried-append xs ys
  carried-append (Carried x ∷ xs) ys = ap (λ (r : List T). x ∷ r) (carried-append xs ys)

  pub carried_next : (xs : List (Item H T)) (x : T) → carried (xs ++ Carried x ∷ []) ≡ carried xs ++ x ∷ []
  unfolding carried
  carried_next xs x = carried-append xs (Carried x ∷ [])

  -- what is put behind a head leaves it the head
  pub headed_next : (h : H) (xs : List (Item H T)) (x : T) → IsHeaded h xs → IsHeaded h (xs ++ Carried x ∷ [])
  headed_next h xs x i = record { is = ap (λ (r : List (Item H T)). r ++ Carried x ∷ []) i.is ∙ ap (λ (r : List (Item H T)). Head h ∷ r) (sym (map-append H (carried xs) (x ∷ [])) ∙ ap (λ (r : List T). map Carried r) (sym (carried_next xs x))) }

  pub headed_first : (h : H) → IsHeaded {T = T} h (Head h ∷ [])
  unfolding carried
  headed_first h = record { is = refl }

  pub headed_length : (h : H) (xs : List (Item H T)) → IsHeaded h xs → length xs ≡ length (carried xs) + 1
  headed_length h xs i = omega (arith, ap length i.is, length-map H (carried xs))

  same_head : {g h : H} → ◌≡◌ {A = Item H T} (Head g) (Head h) → g ≡ h
  same_head e = grind (arith, e)

  -- what keeps the rule may go behind a head
  pub allowed_next : (keeps : H → List T → T → Type 0) (h : H) (xs : List (Item H T)) (x : T) → IsHeaded h xs → keeps h (carried xs) x → AllowedBy keeps xs (Carried x)
  unfolding AllowedBy carried
  allowed_next keeps h [] x i k = absurd (grind (arith, i.is))
  allowed_next keeps h (Head g ∷ xs) x i k = subst (λ (f : H). keeps f (carried xs) x) (sym (same_head (head-eq_of_cons-eq i.is))) k
  allowed_next keeps h (Carried y ∷ xs) x i k = absurd (grind (arith, head-eq_of_cons-eq i.is))

  -- and what went there keeps it
  pub kept_next : (keeps : H → List T → T → Type 0) (h : H) (xs : List (Item H T)) (x : T) → IsHeaded h xs → AllowedBy keeps xs (Carried x) → keeps h (carried xs) x
  unfolding AllowedBy carried
  kept_next keeps h [] x i k = absurd (grind (arith, i.is))
  kept_next keeps h (Head g ∷ xs) x i k = subst (λ (f : H). keeps f (carried xs) x) (same_head (head-eq_of_cons-eq i.is)) k
  kept_next keeps h (Carried y ∷ xs) x i k = absurd (grind (arith, head-eq_of_cons-eq i.is))

  -- no second head goes there
  pub one_head : (keeps : H → List T → T → Type 0) (h g : H) (xs : List (Item H T)) → IsHeaded h xs → AllowedBy keeps xs (Head g) → ⊥
  unfolding AllowedBy
  one_head keeps h g [] i k = absurd (grind (arith, i.is))
  one_head keeps h g (Head f ∷ xs) i k = k
  one_head keeps h g (Carried y ∷ xs) i k = k

  front-append : (xs ys : List (Item H T)) → IsPrefix (front xs) (front (xs ++ ys))
  unfolding front
  front-append [] ys = (front ys, refl)
  front-append (Head h ∷ xs) ys = ([], refl)
  front-append (Carried x ∷ xs) ys = let p = front-append xs ys in (p.0, ap (λ (r : List T). x ∷ r) p.1)

  -- a longer list has a longer front
  pub front_prefix : (xs ys : List (Item H T)) → IsPrefix xs ys → IsPrefix (front xs) (front ys)
  front_prefix xs ys p = rw (← p.1) (front-append xs p.0)

  same_carried : {x y : T} → ◌≡◌ {A = Item H T} (Carried x) (Carried y) → x ≡ y
  same_carried e = grind (arith, e)

  met_tails : (xs : List T) (ys : List (Item H T)) (zs : List T) → map Carried xs ++ ys ≡ map Carried zs → xs ++ front ys ≡ zs
  met_tails [] ys zs e = ap front e ∙ front-map H zs
  met_tails (x ∷ xs) ys [] e = absurd (grind (arith, e))
  met_tails (x ∷ xs) ys (z ∷ zs) e = ap (λ (y : T). y ∷ (xs ++ front ys)) (same_carried (head-eq_of_cons-eq e)) ∙ ap (λ (r : List T). z ∷ r) (met_tails xs ys zs (tail-eq_of_cons-eq e))

  met_items : (h g : H) (xs ys zs : List (Item H T)) → IsHeaded h xs → IsHeaded g zs → xs ++ ys ≡ zs → Head h ∷ (map Carried (carried xs) ++ ys) ≡ Head g ∷ map Carried (carried zs)
  met_items h g xs ys zs i j e = sym (ap (λ (r : List (Item H T)). r ++ ys) i.is) ∙ e ∙ j.is

  -- what lies between two headed lists is all carried
  pub met : (h g : H) (xs ys zs : List (Item H T)) → IsHeaded h xs → IsHeaded g zs → xs ++ ys ≡ zs → carried xs ++ front ys ≡ carried zs
  met h g xs ys zs i j e = met_tails (carried xs) ys (carried zs) (tail-eq_of_cons-eq (met_items h g xs ys zs i j e))

  pub met_heads : (h g : H) (xs ys zs : List (Item H T)) → IsHeaded h xs → IsHeaded g zs → xs ++ ys ≡ zs → h ≡ g
  met_heads h g xs ys zs i j e = same_head (head-eq_of_cons-eq (met_items h g xs ys zs i j e))

  pub allowed_first : (keeps : H → List T → T → Type 0) (h : H) (xs : List (Item H T)) → xs ≡ [] → AllowedBy keeps xs (Head h)
  unfolding AllowedBy
  allowed_first keeps h xs e = rw e tt

  pub carried_head : (h : H) (xs : List (Item H T)) → xs ≡ Head h ∷ [] → carried xs ≡ []
  unfolding carried
  carried_head h xs e = ap carried e

  -- with what was put, the end's room is still free places and what was put
  pub put_leaves : (h : H) (xs ys : List (Item H T)) (x : T) (room free left : ℕ) → IsHeaded h xs → ys ≡ xs ++ Carried x ∷ [] → room ≤ free + length (carried xs) → free ≤ left + 1
      → IsHeaded h ys × (room ≤ left + length (carried ys))
  put_leaves h xs ys x room free left i e r f =
      rw e (headed_next h xs x i, rw (carried_next xs x) (omega (arith, r, f, length-append (carried xs) (x ∷ []))))

  -- where nothing was put, since nothing was free, all places are taken by what was put before
  pub put_stays : (h : H) (xs ys : List (Item H T)) (room free left : ℕ) → IsHeaded h xs → ys ≡ xs → room ≤ free + length (carried xs) → (0 < free → ⊥)
      → IsHeaded h ys × (room ≤ left + length (carried ys))
  put_stays h xs ys room zero left i e r n = rw e (i, omega (arith, r))
  put_stays h xs ys room (suc free) left i e r n = absurd (n (omega arith))

  -- ---- what is known of a ring's items

  -- behind the head nothing lies in a ring that was given the head alone
  pub front_behind : (h : H) (x : Item H T) (rs ks : List (Item H T)) → rs ≡ x ∷ [] → rs ++ ks ≡ Head h ∷ [] → front ks ≡ []
  unfolding front
  front_behind h x rs ks e f = ap front (tail-eq_of_cons-eq (sym (ap (λ (r : List (Item H T)). r ++ ks) e) ∙ f))

  pub front_known : (xs : List (Item H T)) → 0 < length (front xs) → 0 < length xs
  unfolding front
  front_known [] h = h
  front_known (x ∷ xs) h = omega arith

  pub front_none : (xs : List (Item H T)) → xs ≡ [] → front xs ≡ []
  unfolding front
  front_none xs e = ap front e

  pub front_head : (h : H) (xs : List (Item H T)) → IsPrefix (Head h ∷ []) xs → front xs ≡ []
  unfolding front
  front_head h xs p = sym (ap front p.1)

  pub front_carried : (x : T) (xs : List (Item H T)) → IsPrefix (Carried x ∷ []) xs → IsPrefix (x ∷ []) (front xs)
  unfolding front
  front_carried x xs p = (front p.0, ap front p.1)

  pub front_taken : (x : T) (xs ys : List (Item H T)) → IsPrefix xs (Carried x ∷ ys) → IsPrefix (front xs) (x ∷ front ys)
  unfolding front
  front_taken x xs ys p = front_prefix xs (Carried x ∷ ys) p

-- ---- what the ends show of a look

-- the words, the slots and the names are those of the ring
same_name : {T A P : Type 0} (a b : End T A P) → SameRing a b → ring_of b ≡ ring_of a
same_name a b s = cc (s.0, s.1, s.2)

module _ {H T A P : Type 0} where
  pub looked_in : (a b : Consumer (Item H T) A P) (h : H) → ConsumerLooked a b → LookedIn (in_view a h) (in_view b h)
  looked_in a b h l = record {
    same = record { ring = same_name a.end b.end l.0.0; head = refl; room = l.0.1 };
    taken = ap carried l.1;
    known = front_prefix (known_items a) (known_items b) l.2;
  }
