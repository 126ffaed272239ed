-- What a contract sees of the two ends of a ring.
use Rattle.std.specs.Prelude.{ℕ, ◌≡◌, ◌≤◌, List}
use mathlib.Core.List.{IsPrefix}
use denote.RawPtr.{Ptr}
use Rattle.rtrb.specs.Shared.{Names}

-- a ring by its memory and the names of its two views; no two rings that live at once have the same
pub record RingName : Type 0 where
  pub words : Ptr
  pub slots : Ptr
  pub names : Names

-- the end that puts
pub record Out (H T : Type 0) : Type 0 where
  -- the ring that it is an end of
  pub ring : RingName
  pub head : H
  -- all that was put, oldest first
  pub put : List T
  -- how many places are known to be free
  pub free : ℕ
  -- how many places there are
  pub room : ℕ

-- the end that takes
pub record In (H T : Type 0) : Type 0 where
  -- the ring that it is an end of
  pub ring : RingName
  pub head : H
  -- all that was taken, oldest first
  pub taken : List T
  -- what is known to lie in the ring, oldest first
  pub known : List T
  -- how many places there are
  pub room : ℕ

module _ {H T : Type 0} where
  -- the same end of the same ring
  pub record SameOut (a b : Out H T) : Type 0 where
    pub ring : b.ring ≡ a.ring
    pub head : b.head ≡ a.head
    pub room : b.room ≡ a.room

  -- likewise of the end that takes
  pub record SameIn (a b : In H T) : Type 0 where
    pub ring : b.ring ≡ a.ring
    pub head : b.head ≡ a.head
    pub room : b.room ≡ a.room

  -- nothing was put, and no place that was known to be free is lost
  pub record LookedOut (a b : Out H T) : Type 0 where
    pub same : SameOut a b
    pub put : b.put ≡ a.put
    pub free : a.free ≤ b.free

  -- nothing was taken, and more may be known
  pub record LookedIn (a b : In H T) : Type 0 where
    pub same : SameIn a b
    pub taken : b.taken ≡ a.taken
    pub known : IsPrefix a.known b.known
