-- What two calls in a row took of a source, or put into a sink.
use Rattle.std.proofs.Common.{◌≡◌, ℕ, ◌+◌, ◌-◌, ◌≤◌, List, ◌++◌, length, take, drop, arith, sym, ap, ◌∙◌, subst, append_assoc, length-append, length-drop}
use Rattle.std.proofs.lemmas.List.{length-take-le, take_all, take-append-drop, drop-append-le}
use Rattle.std.proofs.Math.Seq.{take-add}
use Rattle.std.specs.Io.KnownBytes.{Appends, Consumes}
use Rattle.std.proofs.KnownBytes.{Appends-trans, Consumes-trans}
use Rattle.std.specs.Prelude.{Option}
use Rattle.zeus_io.specs.Bytes.{Takes}

-- the bytes that were there and the piece that came are all that was taken
pub Takes-both : (a b c : Option (List ℕ)) (bytes piece : List ℕ) (P : List ℕ → Type 0)
    → Consumes a b bytes → Consumes b c piece → P (bytes ++ piece) → Takes a c P
Takes-both a b c bytes piece P p q h =
    record { taken = bytes ++ piece; from_front = Consumes-trans a b c bytes piece p q; holds = h }

-- how long the bytes are with a piece of n more
pub length-piece : (bytes buf : List ℕ) (n : ℕ) → n ≤ length buf → length (bytes ++ take n buf) ≡ length bytes + n
length-piece bytes buf n h = length-append bytes (take n buf) ∙ ap (λ k. length bytes + k) (length-take-le n buf h)

-- the next n bytes came behind the first i
pub Appends-next : (a b c : Option (List ℕ)) (bytes : List ℕ) (i n : ℕ) → Appends a b (take i bytes)
    → Appends b c (take n (take (length bytes - i) (drop i bytes))) → Appends a c (take (i + n) bytes)
Appends-next a b c bytes i n p q =
    let rest : take (length bytes - i) (drop i bytes) ≡ drop i bytes = take_all _ _ (omega (arith, length-drop i bytes)) in
    let joined : take i bytes ++ take n (take (length bytes - i) (drop i bytes)) ≡ take (i + n) bytes =
    ap (λ l. take i bytes ++ take n l) rest ∙ sym (take-add i n bytes) in
    subst (Appends a c) joined (Appends-trans a b c _ _ p q)

-- a front of the buffer was written, and behind it the buffer is as it was
pub fill_front : (xs front buf : List ℕ) (n most : ℕ) → xs ≡ front ++ drop n (take most buf) → n ≤ length (take most buf)
    → xs ++ drop most buf ≡ front ++ drop n buf
fill_front xs front buf n most e h =
    let rest : drop n (take most buf) ++ drop most buf ≡ drop n buf =
    sym (drop-append-le n (take most buf) (drop most buf) h) ∙ ap (drop n) (take-append-drop most buf) in
    ap (λ l. l ++ drop most buf) e ∙ append_assoc front (drop n (take most buf)) (drop most buf) ∙ ap (λ l. front ++ l) rest
