-- What may stand at each place of a line of a script of leases, by the lines before it and the words before the place.
use Rattle.std.specs.Prelude.{ℕ, suc, ◌^◌, ◌&&◌, ◌==◌, List, [], ◌∷◌, codes, length, replicate, Option, Some, None}
use Rattle.zeus_model.specs.Faults.{row_met}
use Rattle.zeus_model.specs.Places.{Wanted, Keyword, Number, WordPlace, must, ends, under, first_word, second_word, last_line, beginning, behind, node_place, Tail, Ends, Members, Form, no_form}
use Rattle.zeus_model.specs.Tables.{nth, or_else, where_true}
use Rattle.zeus_model.specs.Words.{is_among, number_in}
use Rattle.zeus_model.specs.declared.fault.Kind.{Kind}
use Rattle.zeus_model.specs.declared.fault.Kind.TheVariants as kinds

-- the words of steps
abbrev pub step_keywords : List (List ℕ)
step_keywords = codes "pass" ∷ codes "ask" ∷ codes "hear" ∷ codes "take" ∷ codes "act" ∷ codes "view" ∷ []

-- which word begins a line, by the first word of the line before it: of the first line, the line without words
unfoldable pub order : List (List ℕ × List (List ℕ))
order =
    ([], codes "leases" ∷ [])
    ∷ (codes "leases", codes "nodes" ∷ [])
    ∷ (codes "nodes", codes "length" ∷ [])
    ∷ (codes "length", codes "percent" ∷ [])
    ∷ []

-- what the lines before a line say: which words may begin it, how many nodes there are, and how many steps stand before
pub record Said : Type 0 where
  pub next : List (List ℕ)
  pub nodes : ℕ
  pub steps : ℕ

-- what lines say: behind the percent and behind a step may stand a step or `end`
unfoldable pub said : List (List (List ℕ)) → Said
said ls = record {
  next = under (codes "end" ∷ step_keywords) (first_word (last_line ls)) order;
  nodes = number_in (second_word (nth [] ls 1));
  steps = length (beginning step_keywords ls);
}

abbrev form : List ℕ → List Wanted → Tail → List ℕ × Form
form keyword wants tail = (keyword, record { wants = wants; tail = tail })

-- the forms of all lines
unfoldable pub forms : ℕ → List (List ℕ × Form)
forms nodes =
    form (codes "leases") (Keyword (codes "1" ∷ []) ∷ []) Ends
    ∷ form (codes "nodes") (Number 1 9 ∷ []) Ends
    ∷ form (codes "length") (Number 1 (2 ^ 32) ∷ []) Ends
    ∷ form (codes "percent") (Number 0 101 ∷ []) Ends
    ∷ form (codes "pass") (replicate (suc nodes) (Number 0 (2 ^ 32))) Ends
    ∷ form (codes "ask") (Number 0 nodes ∷ []) Ends
    ∷ form (codes "hear") (Number 0 (2 ^ 32) ∷ []) Ends
    ∷ form (codes "take") (Number 0 (2 ^ 32) ∷ []) Ends
    ∷ form (codes "act") (Number 0 nodes ∷ []) Ends
    ∷ form (codes "view") [] Members
    ∷ form (codes "end") [] Ends
    ∷ []

-- in the tail of a line: nodes, or its end
unfoldable pub tail_place : ℕ → Tail → List (List ℕ) → WordPlace
tail_place nodes Members ws = node_place nodes None ws
tail_place nodes _ ws = ends

-- behind these words of a line of this form, its first word aside
abbrev pub form_place : ℕ → Form → List (List ℕ) → WordPlace
form_place nodes f ws = behind f.wants (tail_place nodes f.tail) ws

-- the place behind these words of a line
unfoldable pub place : Said → List (List ℕ) → WordPlace
place d [] = must (Keyword d.next)
place d (w ∷ ws) = form_place d.nodes (under no_form w (forms d.nodes)) ws

-- long: at its first word, a step more than a script may have
unfoldable pub one_step_more : Said → List (List ℕ) → Option (List ℕ) → Option Kind
one_step_more d [] (Some w) = where_true (is_among w step_keywords && (d.steps == 50000)) kinds.Long
one_step_more d _ w = None

-- the row of the table of kinds that a word meets behind these
abbrev pub row : Said → List (List ℕ) → Option (List ℕ) → Option Kind
row d before w = or_else (row_met (place d before) w) (one_step_more d before w)
