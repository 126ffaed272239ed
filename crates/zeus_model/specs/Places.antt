-- What may stand at each place of a line, by the lines before it, the form of the line, and the words before the place.
use Rattle.std.specs.Prelude.{ℕ, suc, ◌^◌, Bool, true, false, ◌==◌, nat_le, List, [], ◌∷◌, ◌++◌, map, length, Option, Some, None, codes, if◌then◌else◌}
use Rattle.std.specs.Str.{bytes_eq}
use Rattle.zeus_model.specs.Tables.{nth}
use Rattle.zeus_model.specs.Words.{is_among, number_in}

-- what of the language is read: the versions up to the newest, whether the line of the degree, and whether for a live run
pub record Opening : Type 0 where
  pub newest : ℕ
  pub degree : Bool
  pub live : Bool

-- what is wanted at a place
pub data Wanted : Type 0 where
  -- the first word of a line, one of these; so many objects, transactions and steps stand before, and the run may be live
  First : (words : List (List ℕ)) → (objects txs steps : ℕ) → (live : Bool) → Wanted
  -- one of these words
  Keyword : (words : List (List ℕ)) → Wanted
  -- the word of an operation, one of these; so many operations stand before
  Operation : (words : List (List ℕ)) → (before : ℕ) → Wanted
  -- a number from the lowest on and below the limit
  Number : (lowest limit : ℕ) → Wanted
  -- a node of a list: one of so many, from the lowest on, and not the owner
  Node : (nodes lowest : ℕ) → (owner : Option ℕ) → Wanted
  -- a value, of this version
  Value : (version : ℕ) → Wanted
  -- the name of an object, none of these
  NewName : (names : List (List ℕ)) → Wanted
  -- the name of a declared object; the transaction names some of them already
  Declared : (names named : List (List ℕ)) → Wanted
  -- no word
  Nothing : Wanted

-- a place: what is wanted there, and whether the line may also end there
pub record WordPlace : Type 0 where
  pub want : Wanted
  pub may_end : Bool

-- a word has to stand there
abbrev pub must : Wanted → WordPlace
must want = record { want = want; may_end = false }

-- the line has to end there
abbrev pub ends : WordPlace
ends = record { want = Nothing; may_end = true }

-- ---- what the lines before say

-- what stands in a table under a word, or else this
unfoldable pub under : {A : Type 0} → A → List ℕ → List (List ℕ × A) → A
under other w [] = other
under other w (row ∷ rows) = if bytes_eq w row.0 then row.1 else under other w rows

-- the word that a line begins with
abbrev pub first_word : List (List ℕ) → List ℕ
first_word l = nth [] l 0

-- the word behind it
abbrev pub second_word : List (List ℕ) → List ℕ
second_word l = nth [] l 1

-- the lines that begin with one of these words
unfoldable pub beginning : List (List ℕ) → List (List (List ℕ)) → List (List (List ℕ))
beginning words [] = []
beginning words (l ∷ ls) = if is_among (first_word l) words then l ∷ beginning words ls else beginning words ls

-- the last line; before the first line there is one without words
unfoldable pub last_line : List (List (List ℕ)) → List (List ℕ)
last_line [] = []
last_line (l ∷ []) = l
last_line (l ∷ k ∷ ls) = last_line (k ∷ ls)

-- the words of steps
abbrev pub step_keywords : List (List ℕ)
step_keywords = codes "begin" ∷ codes "try" ∷ codes "deliver" ∷ codes "tick" ∷ codes "stop" ∷ codes "view" ∷ codes "install" ∷ []

-- which words may begin a line, by the first word of the line before it: of the first line, the line without words
unfoldable pub order : Opening → List (List ℕ × List (List ℕ))
order o =
    ([], codes "zeus" ∷ [])
    ∷ (codes "zeus", codes "nodes" ∷ [])
    ∷ (codes "nodes", codes "slots" ∷ [])
    ∷ (codes "slots", codes "directory" ∷ [])
    ∷ (codes "directory", (if o.degree then codes "degree" ∷ codes "object" ∷ [] else codes "object" ∷ []))
    ∷ (codes "degree", codes "object" ∷ [])
    ∷ (codes "object", codes "object" ∷ codes "tx" ∷ codes "run" ∷ [])
    ∷ (codes "tx", codes "tx" ∷ codes "run" ∷ [])
    ∷ []

-- what the lines before a line say: which words may begin it; the version, and how many nodes and slots there are; the names of
-- the objects; how many transactions and steps stand before
pub record Said : Type 0 where
  pub next : List (List ℕ)
  pub version : ℕ
  pub nodes : ℕ
  pub slots : ℕ
  pub names : List (List ℕ)
  pub txs : ℕ
  pub steps : ℕ

-- what lines say: each number and name stands at its place of its line; behind `run` and behind a step may stand a step or `end`
unfoldable pub said : Opening → List (List (List ℕ)) → Said
said o ls = record {
  next = under (codes "end" ∷ step_keywords) (first_word (last_line ls)) (order o);
  version = number_in (second_word (nth [] ls 0));
  nodes = number_in (second_word (nth [] ls 1));
  slots = number_in (second_word (nth [] ls 2));
  names = map second_word (beginning (codes "object" ∷ []) ls);
  txs = length (beginning (codes "tx" ∷ []) ls);
  steps = length (beginning step_keywords ls);
}

-- ---- the forms of lines

-- what stands behind the words that each line of a kind has
pub data Tail : Type 0 where
  -- the line ends
  Ends : Tail
  -- one node or more, at most as many as there are
  Directory : Tail
  -- any nodes, without the owner, whose word is the third behind `object`
  Replicas : Tail
  -- any nodes
  Members : Tail
  -- operations, or `after` and a number before them
  Operations : Tail

-- a kind of line: what it has behind its first word
pub record Form : Type 0 where
  pub wants : List Wanted
  pub tail : Tail

-- the lines with this first word
abbrev form : List ℕ → List Wanted → Tail → List ℕ × Form
form keyword wants tail = (keyword, record { wants = wants; tail = tail })

-- the versions that are read
abbrev pub versions : Opening → List (List ℕ)
versions o = codes "1" ∷ (if nat_le 2 o.newest then codes "2" ∷ [] else [])

-- the forms of all lines
unfoldable pub forms : Opening → Said → List (List ℕ × Form)
forms o d =
    form (codes "zeus") (Keyword (versions o) ∷ []) Ends
    ∷ form (codes "nodes") (Number 1 9 ∷ []) Ends
    ∷ form (codes "slots") (Number 1 9 ∷ []) Ends
    ∷ form (codes "directory") [] Directory
    ∷ form (codes "degree") (Number 1 9 ∷ []) Ends
    ∷ form (codes "object") (NewName d.names ∷ Value d.version ∷ Number 0 d.nodes ∷ []) Replicas
    ∷ form (codes "tx") (Number 0 d.nodes ∷ Number 0 d.slots ∷ []) Operations
    ∷ form (codes "run") [] Ends
    ∷ form (codes "begin") (Number 0 d.txs ∷ []) Ends
    ∷ form (codes "try") (Number 0 d.nodes ∷ Number 0 d.slots ∷ []) Ends
    ∷ form (codes "deliver") (Number 0 d.nodes ∷ Number 0 d.nodes ∷ Number 0 (2 ^ 32) ∷ []) Ends
    ∷ form (codes "tick") (Number 0 d.nodes ∷ []) Ends
    ∷ form (codes "stop") (Number 0 d.nodes ∷ []) Ends
    ∷ form (codes "view") [] Members
    ∷ form (codes "install") (Number 0 d.nodes ∷ Number 1 (2 ^ 32) ∷ []) Ends
    ∷ form (codes "end") [] Ends
    ∷ []

-- the words of operations; `same` in version 2
unfoldable pub op_keywords : ℕ → List (List ℕ)
op_keywords version =
    codes "get" ∷ codes "put" ∷ codes "add" ∷ codes "need" ∷ (if version == 2 then codes "same" ∷ [] else [])

-- the forms of operations
unfoldable pub op_forms : Said → List (List ℕ) → List (List ℕ × List Wanted)
op_forms d named =
    (codes "get", Declared d.names named ∷ [])
    ∷ (codes "put", Declared d.names named ∷ Value d.version ∷ [])
    ∷ (codes "add", Declared d.names named ∷ Number 0 (2 ^ 64) ∷ [])
    ∷ (codes "need", Declared d.names named ∷ Number 0 (2 ^ 64) ∷ [])
    ∷ (codes "same", Declared d.names named ∷ Value d.version ∷ [])
    ∷ []

-- ---- the place behind words

-- behind these words: each takes one of what is wanted, and the others stand in the tail
unfoldable pub behind : List Wanted → (List (List ℕ) → WordPlace) → List (List ℕ) → WordPlace
behind [] tail ws = tail ws
behind (x ∷ xs) tail [] = must x
behind (x ∷ xs) tail (w ∷ ws) = behind xs tail ws

-- the lowest node that may follow these of a list: the one above the last, or this one where there is none
unfoldable pub above : ℕ → List (List ℕ) → ℕ
above lowest [] = lowest
above lowest (w ∷ ws) = above (suc (number_in w)) ws

-- whether there is a word
unfoldable pub some_words : List (List ℕ) → Bool
some_words [] = false
some_words (w ∷ ws) = true

-- behind these nodes of a directory: as many as there are may stand in it, and one has to
unfoldable pub directory_place : ℕ → List (List ℕ) → WordPlace
directory_place nodes ws =
    if length ws == nodes then ends else record { want = Node nodes (above 0 ws) None; may_end = some_words ws }

-- behind these nodes of another list, which may end anywhere
abbrev pub node_place : ℕ → Option ℕ → List (List ℕ) → WordPlace
node_place nodes owner ws = record { want = Node nodes (above 0 ws) owner; may_end = true }

-- operations as words: those that are finished, and the words of the one behind the last `;`
pub record OpParts : Type 0 where
  pub finished : List (List (List ℕ))
  pub last : List (List ℕ)

-- the next word of operations is a `;` or belongs to the last of them
unfoldable pub with_word : OpParts → List ℕ → OpParts
with_word p w =
    if bytes_eq w (codes ";")
    then record { finished = p.finished ++ p.last ∷ []; last = [] }
    else record { finished = p.finished; last = p.last ++ w ∷ [] }

-- words of operations, read behind others
unfoldable pub with_words : OpParts → List (List ℕ) → OpParts
with_words p [] = p
with_words p (w ∷ ws) = with_words (with_word p w) ws

-- the names with one more, where it is new to them
unfoldable pub with_name : List (List ℕ) → List ℕ → List (List ℕ)
with_name names w = if is_among w names then names else names ++ w ∷ []

-- the names with those that operations name behind their first words
unfoldable pub noted_after : List (List ℕ) → List (List (List ℕ)) → List (List ℕ)
noted_after names [] = names
noted_after names (op ∷ ops) = noted_after (with_name names (second_word op)) ops

-- the names that finished operations name, each once
abbrev pub named_in : List (List (List ℕ)) → List (List ℕ)
named_in ops = noted_after [] ops

-- behind an operation: `;` and one more, or the end of the line
abbrev pub separator : List (List ℕ) → WordPlace
separator ws = record { want = Keyword (codes ";" ∷ []); may_end = true }

-- behind these words of an operation, of which the finished ones stand before it
unfoldable pub op_place : Said → List (List (List ℕ)) → List (List ℕ) → WordPlace
op_place d finished [] = must (Operation (op_keywords d.version) (length finished))
op_place d finished (w ∷ ws) = behind (under [] w (op_forms d (named_in finished))) separator ws

-- behind these words of operations
unfoldable pub ops_place : Said → OpParts → List (List ℕ) → WordPlace
ops_place d p ws = op_place d (with_words p ws).finished (with_words p ws).last

-- before the first word of operations
abbrev pub no_parts : OpParts
no_parts = record { finished = []; last = [] }

-- behind these words of operations, before which `after` and a number may stand
unfoldable pub tx_place : Said → List (List ℕ) → WordPlace
tx_place d [] = must (Keyword (codes "after" ∷ op_keywords d.version))
tx_place d (w ∷ ws) =
    if bytes_eq w (codes "after")
    then behind (Number 0 d.txs ∷ []) (ops_place d no_parts) ws
    else ops_place d no_parts (w ∷ ws)

-- in the tail of a line: behind all words but the first, and behind those of them that stand in the tail
unfoldable pub tail_place : Said → Tail → List (List ℕ) → List (List ℕ) → WordPlace
tail_place d Ends all ws = ends
tail_place d Directory all ws = directory_place d.nodes ws
tail_place d Replicas all ws = node_place d.nodes (Some (number_in (nth [] all 2))) ws
tail_place d Members all ws = node_place d.nodes None ws
tail_place d Operations all ws = tx_place d ws

-- a line with another first word, which never fits
abbrev pub no_form : Form
no_form = record { wants = []; tail = Ends }

-- behind these words of a line of this form, its first word aside
unfoldable pub form_place : Said → Form → List (List ℕ) → WordPlace
form_place d f ws = behind f.wants (tail_place d f.tail ws) ws

-- the place behind these words of a line
unfoldable pub place : Opening → Said → List (List ℕ) → WordPlace
place o d [] = must (First d.next (length d.names) d.txs d.steps o.live)
place o d (w ∷ ws) = form_place d (under no_form w (forms o d)) ws
