-- A link as one run of bytes: what another packet at its end does, and what is read at each place.
use Rattle.std.proofs.Common.{◌≡◌, ℕ, zero, suc, ◌+◌, ◌≤◌, true, List, [], ◌∷◌, ◌++◌, length, drop, Some, None, Ok, refl, sym, ap, ◌∙◌, append_assoc, arith}
use Rattle.std.specs.List.{slice_get}
use Rattle.std.specs.Option.{option_map}
use Rattle.std.proofs.lemmas.List.{length-append, drop_at, append-nil}
use Rattle.zeus_packet.specs.Fits.{fits}
use Rattle.zeus_packet.specs.declared.letter.Letter.{Letter}
use Rattle.zeus_packet.specs.declared.letter.Packet.{Packet}
use Rattle.zeus_wire.specs.Ranges.{AreLimits, IsPacket, largest}
use Rattle.zeus_wire.specs.Reading.{decoded_front}
use Rattle.zeus_model.specs.PacketSpelling.{packet_bytes}
use Rattle.zeus_wire.proofs.Decoded.{front_again}
use Rattle.lossy_fabric.specs.Links.{AreAt, BeginsAt, letter_at, letter_read, letters_at, numbered, packet_read}

AreLimits-largest : AreLimits (largest 2)
AreLimits-largest = record { version = (omega arith, omega arith); nodes = omega arith; slots = omega arith; objects = omega arith }

-- the packet that begins at a place is read there
pub read_here : (bytes : List ℕ) (start : ℕ) (p : Packet) → BeginsAt bytes start p → decoded_front (largest 2) (drop start bytes) ≡ Ok (p, length (packet_bytes 2 p))
read_here bytes start p h = rw h.text (front_again (largest 2) p h.behind AreLimits-largest h.is h.fit)

letter_here : (bytes : List ℕ) (start : ℕ) (p : Packet) → BeginsAt bytes start p → letter_at bytes start ≡ p.letter
unfolding letter_at letter_read
letter_here bytes start p h = rw (read_here bytes start p h) refl

drop-append_within : (n : ℕ) (xs ys : List ℕ) → n ≤ length xs → drop n (xs ++ ys) ≡ drop n xs ++ ys
drop-append_within zero xs ys h = refl
drop-append_within (suc n) [] ys h = absurd (omega arith)
drop-append_within (suc n) (x ∷ xs) ys h = drop-append_within n xs ys (omega arith)

-- bytes at the end leave what begins before them
still_here : (bytes more : List ℕ) (start : ℕ) (p : Packet) → BeginsAt bytes start p → BeginsAt (bytes ++ more) start p
still_here bytes more start p h = record {
  behind = h.behind ++ more;
  within = omega (arith, h.within, length-append bytes more);
  text = drop-append_within start bytes more h.within ∙ ap (λ t. t ++ more) h.text ∙ append_assoc (packet_bytes 2 p) h.behind more;
  is = h.is;
  fit = h.fit;
}

still_at : (bytes more : List ℕ) (number : ℕ) (starts : List ℕ) → AreAt bytes number starts → AreAt (bytes ++ more) number starts
unfolding AreAt
still_at bytes more number [] h = tt
still_at bytes more number (start ∷ starts) h = ((h.0.0, still_here bytes more start (numbered number h.0.0) h.0.1), still_at bytes more (suc number) starts h.1)

letters_still : (bytes more : List ℕ) (number : ℕ) (starts : List ℕ) → AreAt bytes number starts → letters_at (bytes ++ more) starts ≡ letters_at bytes starts
unfolding letters_at AreAt
letters_still bytes more number [] h = refl
letters_still bytes more number (start ∷ starts) h =
    let p : Packet = numbered number h.0.0 in
    let same : letter_at (bytes ++ more) start ≡ letter_at bytes start = letter_here (bytes ++ more) start p (still_here bytes more start p h.0.1) ∙ sym (letter_here bytes start p h.0.1) in
    rw (same, letters_still bytes more (suc number) starts h.1) refl

one_more_at : (bytes : List ℕ) (number : ℕ) (starts : List ℕ) (start last : ℕ) (l : Letter) → last ≡ number + length starts → AreAt bytes number starts → BeginsAt bytes start (numbered last l) → AreAt bytes number (starts ++ start ∷ [])
unfolding AreAt
one_more_at bytes number [] start last l e h b = let same : last ≡ number = omega arith in ((l, rw (← same) b), tt)
one_more_at bytes number (first ∷ starts) start last l e h b = (h.0, one_more_at bytes (suc number) starts start last l (omega arith) h.1 b)

letters-append : (bytes starts : List ℕ) (start : ℕ) → letters_at bytes (starts ++ start ∷ []) ≡ letters_at bytes starts ++ letter_at bytes start ∷ []
unfolding letters_at
letters-append bytes [] start = refl
letters-append bytes (first ∷ starts) start = ap (λ ls. letter_at bytes first ∷ ls) (letters-append bytes starts start)

-- as many letters as places
pub length-letters_at : (bytes starts : List ℕ) → length (letters_at bytes starts) ≡ length starts
unfolding letters_at
length-letters_at bytes [] = refl
length-letters_at bytes (start ∷ starts) = ap suc (length-letters_at bytes starts)

-- a packet at the end of the bytes
begins_last : (bytes : List ℕ) (p : Packet) → IsPacket p → fits p.letter (largest 2) ≡ true → BeginsAt (bytes ++ packet_bytes 2 p) (length bytes) p
begins_last bytes p is fit = record {
  behind = [];
  within = omega (arith, length-append bytes (packet_bytes 2 p));
  text = drop_at bytes (packet_bytes 2 p) (length bytes) refl ∙ sym (append-nil (packet_bytes 2 p));
  is = is;
  fit = fit;
}

-- one packet more begins at the end of the bytes
pub pushed_at : (bytes starts : List ℕ) (number : ℕ) (l : Letter) → number ≡ length starts → AreAt bytes 0 starts → IsPacket (numbered number l) → fits l (largest 2) ≡ true
    → AreAt (bytes ++ packet_bytes 2 (numbered number l)) 0 (starts ++ length bytes ∷ [])
pushed_at bytes starts number l e h is fit =
    let p : Packet = numbered number l in
    one_more_at (bytes ++ packet_bytes 2 p) 0 starts (length bytes) number l (omega arith) (still_at bytes (packet_bytes 2 p) 0 starts h) (begins_last bytes p is fit)

-- one packet more is one letter more
pub pushed_letters : (bytes starts : List ℕ) (number : ℕ) (l : Letter) → AreAt bytes 0 starts → IsPacket (numbered number l) → fits l (largest 2) ≡ true
    → letters_at (bytes ++ packet_bytes 2 (numbered number l)) (starts ++ length bytes ∷ []) ≡ letters_at bytes starts ++ l ∷ []
pushed_letters bytes starts number l h is fit =
    let p : Packet = numbered number l in
    let last : letter_at (bytes ++ packet_bytes 2 p) (length bytes) ≡ l = letter_here (bytes ++ packet_bytes 2 p) (length bytes) p (begins_last bytes p is fit) in
    letters-append (bytes ++ packet_bytes 2 p) starts (length bytes) ∙ rw (letters_still bytes (packet_bytes 2 p) 0 starts h, last) refl

-- the packet of a number, at the place where it begins
record Found (bytes starts : List ℕ) (i start number : ℕ) : Type 0 where
  letter : Letter
  begins : BeginsAt bytes start (numbered number letter)
  is : slice_get (letters_at bytes starts) i ≡ Some letter

found_at : (bytes : List ℕ) (first : ℕ) (starts : List ℕ) (i start number : ℕ) → number ≡ first + i → AreAt bytes first starts → slice_get starts i ≡ Some start → Found bytes starts i start number
unfolding AreAt letters_at
found_at bytes first [] i start number e h g = absurd cc
found_at bytes first (s ∷ starts) zero start number e h g =
    let same : number ≡ first = omega arith in
    let there : s ≡ start = cc in
    rw (← there, same) record { letter = h.0.0; begins = h.0.1; is = ap (λ l. Some l) (letter_here bytes s (numbered first h.0.0) h.0.1) }
found_at bytes first (s ∷ starts) (suc i) start number e h g =
    let later = found_at bytes (suc first) starts i start number (omega arith) h.1 g in
    record { letter = later.letter; begins = later.begins; is = later.is }

none_at : (bytes starts : List ℕ) (i : ℕ) → slice_get starts i ≡ None → slice_get (letters_at bytes starts) i ≡ None
unfolding letters_at
none_at bytes [] i g = refl
none_at bytes (s ∷ starts) zero g = absurd cc
none_at bytes (s ∷ starts) (suc i) g = none_at bytes starts i g

-- the packet of a number is read, where there is one
pub got : (bytes starts : List ℕ) (number start : ℕ) → AreAt bytes 0 starts → slice_get starts number ≡ Some start
    → packet_read (decoded_front (largest 2) (drop start bytes)) ≡ option_map (numbered number) (slice_get (letters_at bytes starts) number)
unfolding packet_read
got bytes starts number start h g =
    let f = found_at bytes 0 starts number start number (omega arith) h g in
    rw (read_here bytes start (numbered number f.letter) f.begins, f.is) refl

-- the place where a packet of the link begins is within its bytes
pub got_within : (bytes starts : List ℕ) (number start : ℕ) → AreAt bytes 0 starts → slice_get starts number ≡ Some start → start ≤ length bytes
got_within bytes starts number start h g = (found_at bytes 0 starts number start number (omega arith) h g).begins.within

-- if no packet has this number, then there is no letter of the number either
pub got_none : (bytes starts : List ℕ) (number : ℕ) → slice_get starts number ≡ None → None ≡ option_map (numbered number) (slice_get (letters_at bytes starts) number)
got_none bytes starts number g = rw (none_at bytes starts number g) refl
