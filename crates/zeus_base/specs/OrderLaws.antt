-- Laws of the orders of stamps and of streams.
use Rattle.std.specs.Prelude.{ℕ, true, false, ◌&&◌, ◌||◌, ◌==◌, nat_lt, ◌≡◌, ◌↔◌, ◌<◌, ◌≤◌}
use Rattle.std.proofs.Common.{arith}
use Rattle.std.proofs.lemmas.Bool.Decides.{nat_tests}
use Rattle.zeus_base.specs.declared.order.Stamp.{Stamp}
use Rattle.zeus_base.specs.declared.order.Stream.{Stream}
use Rattle.zeus_base.specs.Order.{is_below, same_stamp, is_before, same_stream}

-- ---- one pair of numbers before another, by the first and then the second

lex_irrefl : (a b : ℕ) → (nat_lt a a || ((a == a) && nat_lt b b)) ≡ false
lex_irrefl a b = grind (arith, nat_tests)

lex_trans : (a b c d e f : ℕ) → (nat_lt a c || ((a == c) && nat_lt b d)) ≡ true → (nat_lt c e || ((c == e) && nat_lt d f)) ≡ true → (nat_lt a e || ((a == e) && nat_lt b f)) ≡ true
lex_trans a b c d e f h g = grind (arith, nat_tests)

lex_asym : (a b c d : ℕ) → (nat_lt a c || ((a == c) && nat_lt b d)) ≡ true → (nat_lt c a || ((c == a) && nat_lt d b)) ≡ false
lex_asym a b c d h = grind (arith, nat_tests)

lex_total : (a b c d : ℕ) → (nat_lt a c || ((a == c) && nat_lt b d)) ≡ false → (nat_lt c a || ((c == a) && nat_lt d b)) ≡ false → (a ≡ c) × (b ≡ d)
lex_total a b c d h g = (grind (arith, nat_tests), grind (arith, nat_tests))

lex_le_lt : (a b c d e f : ℕ) → (nat_lt c a || ((c == a) && nat_lt d b)) ≡ false → (nat_lt c e || ((c == e) && nat_lt d f)) ≡ true → (nat_lt a e || ((a == e) && nat_lt b f)) ≡ true
lex_le_lt a b c d e f h g = grind (arith, nat_tests)

lex_lt_le : (a b c d e f : ℕ) → (nat_lt a c || ((a == c) && nat_lt b d)) ≡ true → (nat_lt e c || ((e == c) && nat_lt f d)) ≡ false → (nat_lt a e || ((a == e) && nat_lt b f)) ≡ true
lex_lt_le a b c d e f h g = grind (arith, nat_tests)

lex_le_le : (a b c d e f : ℕ) → (nat_lt c a || ((c == a) && nat_lt d b)) ≡ false → (nat_lt e c || ((e == c) && nat_lt f d)) ≡ false → (nat_lt e a || ((e == a) && nat_lt f b)) ≡ false
lex_le_le a b c d e f h g = grind (arith, nat_tests)

same_pair : (a b c d : ℕ) → ((a == c) && (b == d)) ≡ true → (a ≡ c) × (b ≡ d)
same_pair a b c d h = (grind (arith, nat_tests), grind (arith, nat_tests))

same_pair-refl : (a b : ℕ) → ((a == a) && (b == b)) ≡ true
same_pair-refl a b = grind (arith, nat_tests)

stamp_by : (a b : Stamp) → (a.ver ≡ b.ver) × (a.driver ≡ b.driver) → a ≡ b
stamp_by a b h = λ i. record { ver = h.0 i; driver = h.1 i }

stream_by : (a b : Stream) → (a.node ≡ b.node) × (a.slot ≡ b.slot) → a ≡ b
stream_by a b h = λ i. record { node = h.0 i; slot = h.1 i }

-- ---- stamps

-- if the test says that two stamps are one, then they are equal
pub same_stamp-true : (a b : Stamp) → same_stamp a b ≡ true → a ≡ b
unfolding same_stamp
same_stamp-true a b h = stamp_by a b (same_pair a.ver a.driver b.ver b.driver h)

-- the test says that a stamp is the same as itself
pub same_stamp-refl : (a : Stamp) → same_stamp a a ≡ true
unfolding same_stamp
same_stamp-refl a = same_pair-refl a.ver a.driver

-- if two stamps are equal, then the test says that they are one
pub same_stamp-from : (a b : Stamp) → a ≡ b → same_stamp a b ≡ true
same_stamp-from a b is = rw is (same_stamp-refl b)

-- the test is true exactly if the two stamps are equal
pub same_stamp-decides : (a b : Stamp) → (same_stamp a b ≡ true) ↔ (a ≡ b)
same_stamp-decides a b = (same_stamp-true a b, same_stamp-from a b)

-- no stamp is below itself
pub is_below-irrefl : (a : Stamp) → is_below a a ≡ false
unfolding is_below
is_below-irrefl a = lex_irrefl a.ver a.driver

-- if a stamp is below a second and the second is below a third, then the stamp is below the third
pub is_below-trans : (a b c : Stamp) → is_below a b ≡ true → is_below b c ≡ true → is_below a c ≡ true
unfolding is_below
is_below-trans a b c h g = lex_trans a.ver a.driver b.ver b.driver c.ver c.driver h g

-- if one stamp is below another, then the other is not below it
pub is_below-asym : (a b : Stamp) → is_below a b ≡ true → is_below b a ≡ false
unfolding is_below
is_below-asym a b h = lex_asym a.ver a.driver b.ver b.driver h

-- two stamps of which neither is below the other are one
pub is_below-total : (a b : Stamp) → is_below a b ≡ false → is_below b a ≡ false → a ≡ b
unfolding is_below
is_below-total a b h g = stamp_by a b (lex_total a.ver a.driver b.ver b.driver h g)

-- a stamp of a lower version is below, and one that is below has no higher version
pub is_below-lower : (a b : Stamp) → a.ver < b.ver → is_below a b ≡ true
unfolding is_below
is_below-lower a b h = grind (arith, nat_tests)

-- if one stamp is below another, then its version is not above the other's
pub is_below-ver : (a b : Stamp) → is_below a b ≡ true → a.ver ≤ b.ver
unfolding is_below
is_below-ver a b h = grind (arith, nat_tests)

-- what is not above may be put between: below, or the same and then below
pub is_below-not_above_trans : (a b c : Stamp) → is_below b a ≡ false → is_below b c ≡ true → is_below a c ≡ true
unfolding is_below
is_below-not_above_trans a b c h g = lex_le_lt a.ver a.driver b.ver b.driver c.ver c.driver h g

-- if a is below b and c is not below b, then a is below c
pub is_below-trans_not_above : (a b c : Stamp) → is_below a b ≡ true → is_below c b ≡ false → is_below a c ≡ true
unfolding is_below
is_below-trans_not_above a b c h g = lex_lt_le a.ver a.driver b.ver b.driver c.ver c.driver h g

-- not to be below goes on from one to the next
pub not_below-trans : (a b c : Stamp) → is_below b a ≡ false → is_below c b ≡ false → is_below c a ≡ false
unfolding is_below
not_below-trans a b c h g = lex_le_le a.ver a.driver b.ver b.driver c.ver c.driver h g

-- ---- streams

-- if the test says that two streams are one, then they are equal
pub same_stream-true : (a b : Stream) → same_stream a b ≡ true → a ≡ b
unfolding same_stream
same_stream-true a b h = stream_by a b (same_pair a.node a.slot b.node b.slot h)

-- the test says that a stream is the same as itself
pub same_stream-refl : (a : Stream) → same_stream a a ≡ true
unfolding same_stream
same_stream-refl a = same_pair-refl a.node a.slot

-- if two streams are equal, then the test says that they are one
pub same_stream-from : (a b : Stream) → a ≡ b → same_stream a b ≡ true
same_stream-from a b is = rw is (same_stream-refl b)

-- the test is true exactly if the two streams are equal
pub same_stream-decides : (a b : Stream) → (same_stream a b ≡ true) ↔ (a ≡ b)
same_stream-decides a b = (same_stream-true a b, same_stream-from a b)

-- no stream is before itself
pub is_before-irrefl : (a : Stream) → is_before a a ≡ false
unfolding is_before
is_before-irrefl a = lex_irrefl a.node a.slot

-- if a stream is before a second and the second is before a third, then the stream is before the third
pub is_before-trans : (a b c : Stream) → is_before a b ≡ true → is_before b c ≡ true → is_before a c ≡ true
unfolding is_before
is_before-trans a b c h g = lex_trans a.node a.slot b.node b.slot c.node c.slot h g

-- if one stream is before another, then the other is not before it
pub is_before-asym : (a b : Stream) → is_before a b ≡ true → is_before b a ≡ false
unfolding is_before
is_before-asym a b h = lex_asym a.node a.slot b.node b.slot h

-- two streams of which neither is before the other are one
pub is_before-total : (a b : Stream) → is_before a b ≡ false → is_before b a ≡ false → a ≡ b
unfolding is_before
is_before-total a b h g = stream_by a b (lex_total a.node a.slot b.node b.slot h g)
