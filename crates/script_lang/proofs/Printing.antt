-- The text of a script, part by part.
use Rattle.std.proofs.Common.{ℕ, zero, suc, ◌≡◌, ◌<◌, ◌≤◌, ◌+◌, ◌-◌, List, [], ◌∷◌, ◌++◌, length, get_or, take, drop, min, append_assoc, arith, refl, sym, ap, ◌∙◌, map, codes, decimal}
use Rattle.std.proofs.lemmas.List.{append-nil, drop_all, drop_more, take_rest}
use Rattle.zeus_base.specs.declared.config.Config.{Config}
use Rattle.zeus_base.specs.declared.config.ObjectDecl.{ObjectDecl}
use Rattle.zeus_txn.specs.declared.ops.Op.{Op}
use Rattle.zeus_txn.specs.declared.tx.TxDecl.{TxDecl}
use Rattle.zeus_model.specs.declared.script.Script.{Script}
use Rattle.zeus_model.specs.Spelling.{word, spaced, words_text, lines_text, op_words, more_op_words, tx_op_words, after_words, tx_words, object_words, step_words, degree_lines, head_lines, object_lines, script_lines, spelling}
use Rattle.script_lang.specs.Lines.{line_text, number_line, directory_line, object_line, tx_head, tx_line, op_text, more_op_text}

-- words behind words
pub spaced-append : (vs ws : List (List ℕ)) → spaced (vs ++ ws) ≡ spaced vs ++ spaced ws
unfolding spaced
spaced-append [] ws = refl
spaced-append (v ∷ vs) ws = ap (λ t. word v ++ t) (spaced-append vs ws) ∙ sym (append_assoc (word v) (spaced vs) (spaced ws))

-- a line, and the lines behind it
pub lines_text-cons : (l : List (List ℕ)) (ls : List (List (List ℕ))) → lines_text (l ∷ ls) ≡ line_text l ++ lines_text ls
unfolding lines_text
lines_text-cons l ls = refl

-- lines behind lines
pub lines_text-append : (ks ls : List (List (List ℕ))) → lines_text (ks ++ ls) ≡ lines_text ks ++ lines_text ls
unfolding lines_text
lines_text-append [] ls = refl
lines_text-append (k ∷ ks) ls =
    let e = lines_text-cons k (ks ++ ls) in
    let f = lines_text-append ks ls in
    let g = lines_text-cons k ks in
    let h = append_assoc (line_text k) (lines_text ks) (lines_text ls) in
    cc (e, f, g, h)

-- the first lines
pub head_parts : (c : Config) → lines_text (head_lines c) ≡ number_line (codes "zeus") c.version ++ (number_line (codes "nodes") c.nodes ++ (number_line (codes "slots") c.slots ++ (directory_line c.directory ++ lines_text (degree_lines c.degree))))
unfolding lines_text head_lines
head_parts c = refl

-- a further operation, and those behind it
pub more_op : (names : List (List ℕ)) (op : Op) (ops : List Op) → spaced (more_op_words names (op ∷ ops)) ≡ more_op_text names op ++ spaced (more_op_words names ops)
unfolding more_op_words spaced
more_op names op ops = ap (λ t. codes " ;" ++ t) (spaced-append (op_words names op) (more_op_words names ops))

-- the operations of a transaction
pub first_op : (names : List (List ℕ)) (op : Op) (ops : List Op) → spaced (tx_op_words names (op ∷ ops)) ≡ op_text names op ++ spaced (more_op_words names ops)
unfolding tx_op_words
first_op names op ops = spaced-append (op_words names op) (more_op_words names ops)

bracketed : (a b c d e z : List ℕ) → a ++ (b ++ (c ++ (d ++ e))) ++ z ≡ a ++ b ++ c ++ d ++ e ++ z
bracketed a b c d e z = simp append_assoc refl

-- the line of a transaction
pub tx_parts : (names : List (List ℕ)) (t : TxDecl) → tx_line names t ≡ tx_head t ++ spaced (tx_op_words names t.tx) ++ 10 ∷ []
unfolding words_text tx_words spaced
tx_parts names t =
    let node = word (decimal t.node) in
    let slot = word (decimal t.slot) in
    ap (λ w. codes "tx" ++ (node ++ (slot ++ w)) ++ 10 ∷ []) (spaced-append (after_words t.after) (tx_op_words names t.tx))
    ∙ bracketed (codes "tx") node slot (spaced (after_words t.after)) (spaced (tx_op_words names t.tx)) (10 ∷ [])

-- the lines of a script
pub script_parts : (s : Script) → spelling s ≡ lines_text (head_lines s.config) ++ lines_text (object_lines s.names s.config.objects) ++ lines_text (map (tx_words s.names) s.txs) ++ codes "run\n" ++ lines_text (map step_words s.steps) ++ codes "end\n"
unfolding spelling script_lines lines_text words_text spaced
script_parts s =
    let head = head_lines s.config in
    let objects = object_lines s.names s.config.objects in
    let txs = map (tx_words s.names) s.txs in
    let run = (codes "run" ∷ []) ∷ [] in
    let steps = map step_words s.steps in
    let last = (codes "end" ∷ []) ∷ [] in
    lines_text-append (head ++ objects ++ txs ++ run ++ steps) last
    ∙ ap (λ t. t ++ lines_text last)
    (lines_text-append (head ++ objects ++ txs ++ run) steps
    ∙ ap (λ t. t ++ lines_text steps)
    (lines_text-append (head ++ objects ++ txs) run
    ∙ ap (λ t. t ++ lines_text run) (lines_text-append (head ++ objects) txs ∙ ap (λ t. t ++ lines_text txs) (lines_text-append head objects))))

-- ---- loops and matches

-- no operation has no text
pub no_ops : (names : List (List ℕ)) (ops : List Op) → length ops < 1 → spaced (tx_op_words names ops) ≡ []
unfolding spaced tx_op_words
no_ops names [] h = refl
no_ops names (op ∷ ops) h = absurd (omega arith)

-- the first operation and the others
pub first_ops : (names : List (List ℕ)) (ops : List Op) (op : Op) → 1 ≤ length ops → op ≡ get_or ops 0 op → spaced (tx_op_words names ops) ≡ op_text names op ++ spaced (more_op_words names (take (length ops - 1) (drop 1 ops)))
first_ops names [] op h e = absurd (omega arith)
first_ops names (o ∷ os) op h e =
    let t = take_rest (o ∷ os) 1 in
    let f = first_op names o os in
    cc (e, t, f)

-- when the next part of a whole is written, the rest of it is left
pub next_written : (out part rest whole after : List ℕ) → out ++ (part ++ rest) ≡ whole → after ≡ out ++ part → after ++ rest ≡ whole
next_written out part rest whole after kept added = rw (added, append_assoc) kept

-- what is written behind a text follows it
pub written_behind : (text part before after : List ℕ) → before ≡ text → after ≡ before ++ part → after ≡ text ++ part
written_behind text part before after is added = rw (added, is) refl

-- the lines of the objects that are left: the line of the next object, and those of the others
pub next_object : (names : List (List ℕ)) (objects : List ObjectDecl) (i : ℕ) (n : List ℕ) (o : ObjectDecl) → i < length names → i < length objects → n ≡ get_or names i n → o ≡ get_or objects i o
    → lines_text (object_lines (drop i names) (drop i objects)) ≡ object_line n o ++ lines_text (object_lines (drop (i + 1) names) (drop (i + 1) objects))
unfolding object_lines
next_object names objects i n o named declared name object =
    let e = drop_more names i n named in
    let f = drop_more objects i o declared in
    let ns = drop (i + 1) names in
    let os = drop (i + 1) objects in
    let g : lines_text (object_lines (n ∷ ns) (o ∷ os)) ≡ object_line n o ++ lines_text (object_lines ns os) = lines_text-cons (object_words n o) (object_lines ns os) in
    cc (e, f, g, name, object)

no_declared : (ns : List (List ℕ)) → object_lines ns [] ≡ []
unfolding object_lines
no_declared [] = refl
no_declared (n ∷ ns) = refl

no_object_left : (ns : List (List ℕ)) (os : List ObjectDecl) (i : ℕ) → min (length ns) (length os) ≤ i → object_lines (drop i ns) (drop i os) ≡ []
unfolding object_lines
no_object_left [] os i h =
    let none : List (List ℕ) = [] in
    let e : drop i none ≡ none = drop_all i none (omega arith) in
    rw e refl
no_object_left (n ∷ ns) [] i h =
    let none : List ObjectDecl = [] in
    let e : drop i none ≡ none = drop_all i none (omega arith) in
    rw e (no_declared (drop i (n ∷ ns)))
no_object_left (n ∷ ns) (o ∷ os) zero h = absurd (omega arith)
no_object_left (n ∷ ns) (o ∷ os) (suc i) h = no_object_left ns os i (omega arith)

-- no object is left
pub objects_done : (names : List (List ℕ)) (objects : List ObjectDecl) (i : ℕ) (out whole : List ℕ) → i ≡ min (length names) (length objects) → out ++ lines_text (object_lines (drop i names) (drop i objects)) ≡ whole → out ≡ whole
unfolding lines_text
objects_done names objects i out whole h kept =
    let s = no_object_left names objects i (omega (arith, h)) in
    let nil : lines_text [] ≡ [] = refl in
    let e = append-nil out in
    cc (s, nil, e, kept)
