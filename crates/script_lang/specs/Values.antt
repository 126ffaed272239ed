-- Values as words: a decimal number, or in version 2 `'` and a text.
use Rattle.std.specs.Prelude.{ℕ, ◌&&◌, ◌==◌, List, Result, Ok, Err, drop, slice_index, if◌then◌else◌}
use Rattle.zeus_base.specs.declared.value.Value.{Value}
use Rattle.zeus_base.specs.declared.value.Value.TheVariants as values
use Rattle.zeus_model.specs.declared.fault.Kind.{Kind}
use Rattle.zeus_model.specs.declared.fault.Kind.TheVariants as kinds
use Rattle.script_lang.specs.Reads.{◌>>=◌, or_fault, word_at}
use Rattle.script_lang.specs.Numbers.{number_of}
pub use Rattle.zeus_model.specs.Words.{is_printable}
unfoldable pub use Rattle.zeus_model.specs.Words.{is_text}

-- the text of these bytes
unfoldable pub text_of : List ℕ → Result Value Kind
text_of bytes = if is_text bytes then Ok (values.Text bytes) else Err kinds.Text

-- the value that a word is
unfoldable pub value_of : ℕ → List ℕ → Result Value Kind
value_of version w = if (version == 2) && (slice_index w 0 == 39) then text_of (drop 1 w) else (or_fault (number_of w) kinds.Number >>= λ n. Ok (values.Num n))

-- the next word as a value
unfoldable pub value_at : ℕ → List (List ℕ) → Result (Value × List (List ℕ)) Kind
value_at version ws = do
  w ← word_at ws
  v ← value_of version w.0
  Ok (v, w.1)
