-- What lies in a ring: its head, and behind it what the ring carries.
use Rattle.std.specs.Prelude.{◌≡◌, List, [], ◌∷◌, map}
use Rattle.link_rings.specs.declared.item.Item.{Item}
use Rattle.link_rings.specs.declared.item.Item.TheVariants.{Head, Carried}

module _ {H T : Type 0} where
  -- what items carry, in order
  unfoldable pub carried : List (Item H T) → List T
  carried [] = []
  carried (Head h ∷ items) = carried items
  carried (Carried x ∷ items) = x ∷ carried items

  -- what the items in front of the first head carry
  unfoldable pub front : List (Item H T) → List T
  front [] = []
  front (Head h ∷ items) = []
  front (Carried x ∷ items) = x ∷ front items

  -- the head is the first item, and the only head
  pub record IsHeaded (h : H) (items : List (Item H T)) : Type 0 where
    pub is : items ≡ Head h ∷ map Carried (carried items)

  -- behind some items: the head goes first and once, and what is carried keeps the rule
  unfoldable pub AllowedBy : (H → List T → T → Type 0) → List (Item H T) → Item H T → Type 0
  AllowedBy keeps [] (Head h) = Unit {0}
  AllowedBy keeps [] (Carried x) = ⊥
  AllowedBy keeps (Head h ∷ items) (Carried x) = keeps h (carried items) x
  AllowedBy keeps (Head h ∷ items) (Head other) = ⊥
  AllowedBy keeps (Carried y ∷ items) item = ⊥
