-- What is wrong with a line that has words: the first word that does not fit, and why it does not.
use Rattle.std.specs.Prelude.{◌≡◌, ℕ, suc, zero, ◌<◌, ◌-◌, Bool, true, false, ◌&&◌, ◌||◌, not, ◌==◌, nat_lt, nat_le, List, [], ◌∷◌, length, drop, take, map, slice_index, Option, Some, None, codes}
use Rattle.std.specs.Str.{bytes_eq}
use Rattle.zeus_model.specs.declared.fault.Kind.{Kind}
use Rattle.zeus_model.specs.declared.fault.Kind.TheVariants as kinds
use Rattle.zeus_model.specs.Places.{Opening, Said, Wanted, First, Keyword, Operation, Number, Node, Value, NewName, Declared, Nothing, WordPlace, said, place, step_keywords}
use Rattle.zeus_model.specs.Tables.{nth, or_else, where_true}
use Rattle.zeus_model.specs.Words.{cut, is_among, number_in, is_number, is_name, is_text}

-- ---- the rows of the table of kinds: which words meet them, by what is wanted

-- word: no word may stand here, or another one than this
unfoldable pub is_wrong : Wanted → List ℕ → Bool
is_wrong Nothing w = true
is_wrong (First words objects txs steps live) w = not (is_among w words)
is_wrong (Keyword words) w = not (is_among w words)
is_wrong (Operation words before) w = not (is_among w words)
is_wrong _ w = false

-- in version 2 a value that begins with `'` is a text
abbrev pub is_marked : ℕ → List ℕ → Bool
is_marked version w = (version == 2) && (slice_index w 0 == 39)

-- text: behind the `'` of a value stands no text
unfoldable pub is_no_text : Wanted → List ℕ → Bool
is_no_text (Value version) w = is_marked version w && not (is_text (drop 1 w))
is_no_text _ w = false

-- number: no number, where one is wanted
unfoldable pub is_no_number : Wanted → List ℕ → Bool
is_no_number (Number lowest limit) w = not (is_number w)
is_no_number (Node nodes lowest owner) w = not (is_number w)
is_no_number (Value version) w = not (is_marked version w) && not (is_number w)
is_no_number _ w = false

-- range: a number out of its range
unfoldable pub is_out_of_range : Wanted → List ℕ → Bool
is_out_of_range (Number lowest limit) w = not (nat_le lowest (number_in w) && nat_lt (number_in w) limit)
is_out_of_range (Node nodes lowest owner) w = not (nat_lt (number_in w) nodes)
is_out_of_range _ w = false

-- name: no name, where one is wanted
unfoldable pub is_no_name : Wanted → List ℕ → Bool
is_no_name (NewName names) w = not (is_name w)
is_no_name (Declared names named) w = not (is_name w)
is_no_name _ w = false

-- whether the node is the owner
unfoldable pub is_owner : Option ℕ → ℕ → Bool
is_owner None n = false
is_owner (Some owner) n = n == owner

-- twice: a name that was declared before; a node that is not above the one listed before it, or is the owner
unfoldable pub is_twice : Wanted → List ℕ → Bool
is_twice (NewName names) w = is_among w names
is_twice (Node nodes lowest owner) w = nat_lt (number_in w) lowest || is_owner owner (number_in w)
is_twice _ w = false

-- unknown: the name of no declared object
unfoldable pub is_unknown : Wanted → List ℕ → Bool
is_unknown (Declared names named) w = not (is_among w names)
is_unknown _ w = false

-- long: at its first word, a line or operation more than a script may have; at its name, a ninth object of a transaction
unfoldable pub is_too_long : Wanted → List ℕ → Bool
is_too_long (First words objects txs steps live) w =
    (bytes_eq w (codes "object") && (objects == 256)) || (bytes_eq w (codes "tx") && (txs == 10000))
    || (is_among w step_keywords && (steps == 50000))
is_too_long (Operation words before) w = before == 16
is_too_long (Declared names named) w = not (is_among w named) && nat_le 8 (length named)
is_too_long _ w = false

-- live: at its first word, a transaction more than a live run takes, or a step
unfoldable pub is_not_live : Wanted → List ℕ → Bool
is_not_live (First words objects txs steps live) w =
    ((bytes_eq w (codes "tx") && (txs == 1000)) || is_among w step_keywords) && live
is_not_live _ w = false

-- the table: the first row that a word meets. Where a word has to stand and the line ends, the row is that of the word
unfoldable pub row_met : WordPlace → Option (List ℕ) → Option Kind
row_met p None = where_true (not p.may_end) kinds.Word
row_met p (Some w) =
    or_else (where_true (is_wrong p.want w) kinds.Word)
    (or_else (where_true (is_no_text p.want w) kinds.Text)
    (or_else (where_true (is_no_number p.want w) kinds.Number)
    (or_else (where_true (is_out_of_range p.want w) kinds.Range)
    (or_else (where_true (is_no_name p.want w) kinds.Name)
    (or_else (where_true (is_twice p.want w) kinds.Twice)
    (or_else (where_true (is_unknown p.want w) kinds.Unknown)
    (or_else (where_true (is_too_long p.want w) kinds.Long)
    (where_true (is_not_live p.want w) kinds.Live))))))))

-- ---- the first word that does not fit

-- word j of a line, counted from 0; behind the last there is none
unfoldable pub word_of : List (List ℕ) → ℕ → Option (List ℕ)
word_of [] j = None
word_of (w ∷ ws) zero = Some w
word_of (w ∷ ws) (suc j) = word_of ws j

-- the row that word j of a line meets behind the words before it
abbrev pub row_at : Opening → Said → List (List ℕ) → ℕ → Option Kind
row_at o d ws j = row_met (place o d (take j ws)) (word_of ws j)

-- word j is the first of its line that does not fit, and this is the first row that it meets
pub record IsFaultyWord (o : Opening) (d : Said) (ws : List (List ℕ)) (j : ℕ) (kind : Kind) : Type 0 where
  pub fit : (i : ℕ) → i < j → row_at o d ws i ≡ None
  pub faulty : row_at o d ws j ≡ Some kind

-- the lines of bytes, each cut into its words at the spaces
abbrev pub lines_of : List ℕ → List (List (List ℕ))
lines_of bytes = map (cut 32) (cut 10 bytes)

-- line n, counted from 1, has a first word that does not fit, by what the lines before it say, and this is the first row
-- that it meets
pub record IsWordFault (o : Opening) (bytes : List ℕ) (n : ℕ) (kind : Kind) : Type 0 where
  pub index : ℕ
  pub word : IsFaultyWord o (said o (take (n - 1) (lines_of bytes))) (nth [] (lines_of bytes) (n - 1)) index kind

-- a kind of fault of a word: all but those of a line as a whole, and of too many bytes
unfoldable pub IsOfWord : Kind → Type 0
IsOfWord kinds.Missing = ⊥
IsOfWord kinds.LineEnd = ⊥
IsOfWord kinds.Extra = ⊥
IsOfWord kinds.Size = ⊥
IsOfWord _ = Unit {0}
