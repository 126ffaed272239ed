-- Short printable texts, as the list of their bytes and as 32 bytes of which the first are the text.
use Rattle.std.specs.Str.{bytes_eq}
use Rattle.std.specs.Prelude.{ℕ, Bool, ◌&&◌, ◌==◌, ◌≡◌, ◌≤◌, ◌-◌, List, ◌++◌, length, take, drop, replicate, All}
use Rattle.std.proofs.Common.{arith, refl, sym, ap, ◌∙◌}
use Rattle.std.proofs.lemmas.Bool.Decides.{same_from_decides, Decides-eqb, Decides-and}
use Rattle.std.proofs.lemmas.Bool.{eq-eqb}
use Rattle.std.proofs.lemmas.Slice.Eq.{bytes_eq-Decides}
use Rattle.std.proofs.lemmas.List.{take-append-drop, length-take-le, length-append, length-replicate, drop-replicate}
use Rattle.std.proofs.Math.Seq.{take-append_seam, drop-append_seam}
use Rattle.zeus_base.specs.declared.value.Text.TheInside.{Inside}

-- whether two texts are one
abbrev pub same_text : List ℕ → List ℕ → Bool
same_text s t = bytes_eq s t

-- a text has 1 to 32 bytes, each from 33 to 126
abbrev pub IsText : List ℕ → Type 0
IsText bytes = (1 ≤ length bytes) × (length bytes ≤ 32) × All (λ b. (33 ≤ b) × (b ≤ 126)) bytes

-- behind the text stand bytes 0 alone
pub record IsPadded (kept : Inside) : Type 0 where
  pub text : IsText (take kept.len kept.bytes)
  pub whole : length kept.bytes ≡ 32
  pub fits : kept.len ≤ 32
  pub padding : drop kept.len kept.bytes ≡ replicate (32 - kept.len) 0

-- the text kept in 32 bytes
abbrev pub padded : List ℕ → Inside
padded bytes = record { len = length bytes; bytes = bytes ++ replicate (32 - length bytes) 0 }

-- the text gives the 32 bytes back
pub padded-take : (t : Inside) → IsPadded t → padded (take t.len t.bytes) ≡ t
padded-take t h =
    let taken : length (take t.len t.bytes) ≡ t.len = length-take-le t.len t.bytes (omega (arith, h.whole, h.fits)) in
    let parts : take t.len t.bytes ++ drop t.len t.bytes ≡ t.bytes = take-append-drop t.len t.bytes in
    rw (taken, ← h.padding, parts) refl

-- two texts are one where their lengths and their 32 bytes are
pub same_text-take : (s t : Inside) → IsPadded s → IsPadded t → ((s.len == t.len) && bytes_eq s.bytes t.bytes) ≡ same_text (take s.len s.bytes) (take t.len t.bytes)
same_text-take s t h g =
    let bytes = bytes_eq-Decides s.bytes t.bytes in
    let texts = bytes_eq-Decides (take s.len s.bytes) (take t.len t.bytes) in
    let back : take s.len s.bytes ≡ take t.len t.bytes → s ≡ t = λ e. sym (padded-take s h) ∙ (ap padded e ∙ padded-take t g) in
    let parts = Decides-and (s.len == t.len) (bytes_eq s.bytes t.bytes) (Decides-eqb s.len t.len) bytes in
    same_from_decides ((s.len == t.len) && bytes_eq s.bytes t.bytes) (same_text (take s.len s.bytes) (take t.len t.bytes)) parts (λ e. (ap (λ (k : Inside). k.len) (back (texts.0 e)), ap (λ (k : Inside). k.bytes) (back (texts.0 e))), λ p. texts.1 (ap (λ (n : ℕ). take n s.bytes) p.0 ∙ ap (λ (bs : List ℕ). take t.len bs) p.1))

-- if two padded texts are of one length, then comparing their 32 bytes compares the texts
pub same_text-length : (s t : Inside) (r : Bool) → IsPadded s → IsPadded t → s.len ≡ t.len → r ≡ bytes_eq s.bytes t.bytes → r ≡ same_text (take s.len s.bytes) (take t.len t.bytes)
same_text-length s t r h g same is =
    rw (← same_text-take s t h g, eq-eqb s.len t.len same) is

-- a text, and bytes 0 up to 32 behind it
IsPadded-append : (bytes front rest : List ℕ) → IsText bytes → front ≡ bytes → rest ≡ replicate (32 - length bytes) 0 → IsPadded record { len = length bytes; bytes = front ++ rest }
IsPadded-append bytes front rest text is zeros =
    let short : length bytes ≤ 32 = text.1 in
    let first : take (length bytes) (front ++ rest) ≡ bytes = rw is (take-append_seam bytes rest) in
    let last : drop (length bytes) (front ++ rest) ≡ rest = rw is (drop-append_seam bytes rest) in
    let room : length rest ≡ 32 - length bytes = rw zeros (length-replicate (32 - length bytes) 0) in
    record {
      text = rw first text;
      whole = rw (is, length-append bytes rest, room) (omega arith);
      fits = short;
      padding = last ∙ zeros;
    }

-- a text that is copied over the front of 32 bytes 0
pub IsPadded-copied : (bytes front : List ℕ) → IsText bytes → front ≡ bytes → IsPadded record { len = length bytes; bytes = front ++ drop (length bytes) (replicate {A = ℕ} 32 0) }
IsPadded-copied bytes front text is =
    IsPadded-append bytes front (drop (length bytes) (replicate {A = ℕ} 32 0)) text is (drop-replicate {X = ℕ} (length bytes) 32 0)
