-- Each line that is taken adds itself, and keeps what a script keeps.
use Rattle.std.proofs.Common.{◌≡◌, ◌≢◌, ℕ, ◌<◌, ◌≤◌, Bool, List, [], ◌∷◌, Option, Some, None, refl, sym, ap, ◌∙◌, arith}
use Rattle.std.specs.Prelude.{codes, decimal}
use Rattle.std.specs.Str.{bytes_eq}
use Rattle.std.proofs.lemmas.Fmt.{decimal_digit}
use Rattle.zeus_model.specs.Spelling.{head_lines, degree_lines, object_lines}
use Rattle.script_lang.specs.declared.stage.Stage.{Stage}
use Rattle.script_lang.specs.declared.stage.Stage.TheVariants as stages
use Rattle.script_lang.specs.Drafts.{State, version_of, version_taken, nodes_taken, slots_taken, some_nodes, directory_taken}
use Rattle.script_lang.specs.Reads.{word_at, keyword_at}
use Rattle.script_lang.proofs.DraftFits.{HeadFits, IsBare, BodyFits, Fits, lines_at, Adds}
use Rattle.script_lang.proofs.laws.FindLaws.{bytes_eq-true}
use Rattle.script_lang.proofs.laws.NodeLaws.{IsListed, nodes_after-sound}
use Rattle.script_lang.proofs.laws.NumberLaws.{range_at-sound}
use Rattle.script_lang.proofs.laws.StepLaws.{ended-sound, none_below}
use Rattle.script_lang.proofs.Sound.{IfRead, read_bind, read_ok, read_err, read_cond}

-- if a keyword is read, then the words are the keyword and the words left
pub keyword_at-sound : (k : List ℕ) (ws : List (List ℕ)) → IfRead (keyword_at k ws) (λ x. ws ≡ k ∷ x.1)
unfolding keyword_at word_at
keyword_at-sound k [] = read_err _ _
keyword_at-sound k (w ∷ ws) = read_cond (bytes_eq w k) _ _ _ (λ t. read_ok _ _ (ap (λ (v : List ℕ). v ∷ ws) (bytes_eq-true w k t))) (λ f. read_err _ _)

-- the word spells a version
record SpellsVersion (w : List ℕ) (v : ℕ) : Type 0 where
  word : w ≡ decimal v
  low : 1 ≤ v
  high : v ≤ 2

version_of-sound : (w : List ℕ) → IfRead (version_of w) (SpellsVersion w)
unfolding version_of
version_of-sound w =
    read_cond (bytes_eq w (codes "1")) _ _ _
    (λ t. read_ok _ _ (record { word = bytes_eq-true w (codes "1") t ∙ sym (decimal_digit 1 (omega arith)); low = omega arith; high = omega arith }))
    (λ f. read_cond (bytes_eq w (codes "2")) _ _ _
    (λ t. read_ok _ _ (record { word = bytes_eq-true w (codes "2") t ∙ sym (decimal_digit 2 (omega arith)); low = omega arith; high = omega arith }))
    (λ g. read_err _ _))

-- ---- the first lines

-- if a word is read, then the words are that word and the words left
pub word_at-sound : (ws : List (List ℕ)) → IfRead (word_at ws) (λ x. ws ≡ x.0 ∷ x.1)
unfolding word_at
word_at-sound [] = read_err _ _
word_at-sound (w ∷ ws) = read_ok _ _ refl

bare : (s : State) (stage : Stage) (version nodes slots : ℕ) (directory : List ℕ) (degree : Option ℕ) → IsBare s → IsBare (record s { stage = stage; head = record { version = version; nodes = nodes; slots = slots; directory = directory; degree = degree } })
bare s stage version nodes slots directory degree body = record { names = body.names; objects = body.objects; txs = body.txs; steps = body.steps }

version_made : (live : Bool) (s : State) (w : List ℕ) (ws1 ws : List (List ℕ)) (v : ℕ) → Fits live stages.Version s → ws ≡ codes "zeus" ∷ w ∷ ws1 → SpellsVersion w v → ws1 ≡ []
    → Adds live stages.Version s ws (record s { stage = stages.Nodes; head = record s.head { version = v } })
unfolding HeadFits BodyFits lines_at
version_made live s w ws1 ws v fits spelled version end = record {
  fits = record { head = ((version.low, version.high), fits.head); body = bare s stages.Nodes v s.head.nodes s.head.slots s.head.directory s.head.degree fits.body };
  lines = rw (spelled, version.word, end) refl;
}

-- if a state fits before the version and the line of the version is read, then the line adds itself
pub version_taken-sound : (live : Bool) (s : State) (ws : List (List ℕ)) → Fits live stages.Version s → IfRead (version_taken s ws) (Adds live stages.Version s ws)
unfolding version_taken
version_taken-sound live s ws fits =
    read_bind _ _ _ (keyword_at-sound (codes "zeus") ws) (λ a p. read_bind _ _ _ (word_at-sound a.1) (λ w q.
    read_bind _ _ _ (version_of-sound w.0) (λ v r. read_bind _ _ _ (ended-sound w.1) (λ _ e.
    read_ok _ _ (version_made live s w.0 w.1 ws v fits (rw q at p) r e)))))

nodes_made : (live : Bool) (s : State) (ws1 ws : List (List ℕ)) (n : ℕ) → Fits live stages.Nodes s → ws ≡ codes "nodes" ∷ decimal n ∷ ws1 → 1 ≤ n → n < 9 → ws1 ≡ []
    → Adds live stages.Nodes s ws (record s { stage = stages.Slots; head = record s.head { nodes = n } })
unfolding HeadFits BodyFits lines_at
nodes_made live s ws1 ws n fits spelled low high end = record {
  fits = record { head = (fits.head.0, (low, omega arith), fits.head.1); body = bare s stages.Slots s.head.version n s.head.slots s.head.directory s.head.degree fits.body };
  lines = rw (spelled, end) refl;
}

-- if a state fits before the nodes and the line of the nodes is read, then the line adds itself
pub nodes_taken-sound : (live : Bool) (s : State) (ws : List (List ℕ)) → Fits live stages.Nodes s → IfRead (nodes_taken s ws) (Adds live stages.Nodes s ws)
unfolding nodes_taken
nodes_taken-sound live s ws fits =
    read_bind _ _ _ (keyword_at-sound (codes "nodes") ws) (λ a p. read_bind _ _ _ (range_at-sound 1 9 a.1) (λ n q. read_bind _ _ _ (ended-sound n.1) (λ _ e.
    read_ok _ _ (nodes_made live s n.1 ws n.0 fits (rw q.0 at p) q.2 q.3 e))))

slots_made : (live : Bool) (s : State) (ws1 ws : List (List ℕ)) (n : ℕ) → Fits live stages.Slots s → ws ≡ codes "slots" ∷ decimal n ∷ ws1 → 1 ≤ n → n < 9 → ws1 ≡ []
    → Adds live stages.Slots s ws (record s { stage = stages.Directory; head = record s.head { slots = n } })
unfolding HeadFits BodyFits lines_at
slots_made live s ws1 ws n fits spelled low high end = record {
  fits = record { head = (fits.head.0, fits.head.1, (low, omega arith), fits.head.2); body = bare s stages.Directory s.head.version s.head.nodes n s.head.directory s.head.degree fits.body };
  lines = rw (spelled, end) refl;
}

-- if a state fits before the slots and the line of the slots is read, then the line adds itself
pub slots_taken-sound : (live : Bool) (s : State) (ws : List (List ℕ)) → Fits live stages.Slots s → IfRead (slots_taken s ws) (Adds live stages.Slots s ws)
unfolding slots_taken
slots_taken-sound live s ws fits =
    read_bind _ _ _ (keyword_at-sound (codes "slots") ws) (λ a p. read_bind _ _ _ (range_at-sound 1 9 a.1) (λ n q. read_bind _ _ _ (ended-sound n.1) (λ _ e.
    read_ok _ _ (slots_made live s n.1 ws n.0 fits (rw q.0 at p) q.2 q.3 e))))

some_nodes-sound : (ns : List ℕ) → IfRead (some_nodes ns) (λ some. (some ≡ ns) × (some ≢ []))
some_nodes-sound [] = read_err _ _
some_nodes-sound (n ∷ ns) = read_ok _ _ (refl, λ e. cc)

directory_made : (live : Bool) (s : State) (ws1 ws : List (List ℕ)) (ns some : List ℕ) → Fits live stages.Directory s → ws ≡ codes "directory" ∷ ws1 → IsListed s.head.nodes None 0 [] ws1 ns → some ≡ ns → some ≢ []
    → Adds live stages.Directory s ws (record s { stage = stages.Degree; head = record s.head { directory = some } })
unfolding HeadFits BodyFits lines_at head_lines degree_lines object_lines
directory_made live s ws1 ws ns some fits spelled listed same nonempty =
    let whole : some ≡ listed.ns = same ∙ listed.whole in
    let body = bare s stages.Degree s.head.version s.head.nodes s.head.slots some s.head.degree fits.body in
    record {
      fits = record { head = (fits.head.0, fits.head.1, fits.head.2, (nonempty, rw whole listed.rises, rw whole listed.below), fits.head.3); body = body };
      lines = rw (spelled, listed.words, fits.head.3, body.names, body.txs, ← whole) refl;
    }

-- if a state fits before the directory and the line of the directory is read, then the line adds itself
pub directory_taken-sound : (live : Bool) (s : State) (ws : List (List ℕ)) → Fits live stages.Directory s → IfRead (directory_taken s ws) (Adds live stages.Directory s ws)
unfolding directory_taken
directory_taken-sound live s ws fits =
    read_bind _ _ _ (keyword_at-sound (codes "directory") ws) (λ a p.
    read_bind _ _ _ (nodes_after-sound s.head.nodes (Some s.head.nodes) None [] 0 a.1 (none_below 0)) (λ ns q.
    read_bind _ _ _ (some_nodes-sound ns) (λ some r. read_ok _ _ (directory_made live s a.1 ws ns some fits p q r.0 r.1))))
