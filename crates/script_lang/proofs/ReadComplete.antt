-- What is spelled so is read.
use Rattle.std.proofs.Common.{◌≡◌, ◌≢◌, ℕ, suc, ◌+◌, ◌<◌, ◌≤◌, ◌^◌, Bool, true, false, List, [], ◌∷◌, ◌++◌, length, get_or, All, Option, Some, None, Result, Ok, refl, sym, ap, ◌∙◌, arith, append_assoc, append-nil, length-append}
use Rattle.std.specs.Prelude.{codes, decimal, map, ◌&&◌, ◌==◌, IfSome, AllPairs}
use Rattle.std.specs.List.{AllByRecursion}
use Rattle.std.specs.Str.{bytes_eq}
use Rattle.std.proofs.lemmas.Bool.{eqb-true, eqb-false, ne_eqb, le-ltb}
use Rattle.std.proofs.lemmas.Fmt.{decimal_digit}
use Rattle.std.proofs.lemmas.List.{get_or_append_left}
use Rattle.std.proofs.lemmas.List.Elements.{recursion_from_All}
use Rattle.zeus_base.specs.Limits.{KeepsLimits, KeepsDeclaration}
use Rattle.zeus_base.specs.NodeLaws.{IsRising, IsBelow, length-below}
use Rattle.zeus_base.specs.declared.config.Config.{Config}
use Rattle.zeus_base.specs.declared.config.ObjectDecl.{ObjectDecl}
use Rattle.zeus_base.specs.declared.step.Step.{Step}
use Rattle.zeus_txn.specs.declared.tx.TxDecl.{TxDecl}
use Rattle.zeus_model.specs.declared.script.Script.{Script}
use Rattle.zeus_model.specs.Names.{IsName}
use Rattle.zeus_model.specs.Scripts.{FitsValue, FitsTx, FitTxs, FitsStep, FitsNames, FitsScript, IsSpelled}
use Rattle.zeus_model.specs.Spelling.{words_text, degree_lines, head_lines, object_words, object_lines, tx_words, step_words, script_lines, spelling}
use Rattle.zeus_model.specs.FirstFault.{IsOpenedScript}
use Rattle.script_lang.specs.declared.head.Head.{Head}
use Rattle.script_lang.specs.declared.keywords.StepWord.{StepWord}
use Rattle.script_lang.specs.declared.keywords.StepWord.TheVariants as words
use Rattle.script_lang.specs.declared.stage.Stage.{Stage}
use Rattle.script_lang.specs.declared.stage.Stage.TheVariants as stages
use Rattle.script_lang.specs.declared.reading.ReadScript.{ReadScript}
use Rattle.script_lang.specs.Cut.{cut}
use Rattle.script_lang.specs.Drafts.{State, version_of, version_taken, nodes_taken, slots_taken, some_nodes, directory_taken, degree_taken, object_taken, tx_taken, run_taken, step_taken, tx_line_taken, object_line_taken, degree_line_taken, more, step_line_taken, body_taken, line_taken}
use Rattle.script_lang.specs.Names.{find}
use Rattle.script_lang.specs.NodeLists.{nodes_after}
use Rattle.script_lang.specs.Live.{FitsLive}
use Rattle.script_lang.specs.Reads.{word_at, keyword_at, ended}
use Rattle.script_lang.specs.Reading.{start, is_last, line_done, lines_taken, script_of, scripted, script_read, ReadsScript}
use Rattle.script_lang.proofs.laws.FindLaws.{find-none}
use Rattle.script_lang.proofs.laws.NodeLaws.{nodes_after-nodes, HasRoom}
use Rattle.script_lang.proofs.laws.NumberLaws.{range_at-decimal}
use Rattle.script_lang.proofs.laws.ObjectLaws.{object_rest, object_at-object}
use Rattle.script_lang.proofs.laws.OpsLaws.{AreNames}
use Rattle.script_lang.proofs.laws.StepLaws.{step_text, word_of_step, step_rest, step_words-parts, step_word_of-text, step_at-words, no_owner, none_below}
use Rattle.script_lang.proofs.TextComplete.{IsLine, cut-words_text, cut-lines_text, tx_line, object_line, step_line, run_line, end_line, zeus_line, nodes_line, slots_line, degree_line, directory_line}
use Rattle.script_lang.proofs.laws.TxLaws.{tx_at-words}

-- the parts of lines that are each ended
abbrev parts_of : List (List (List ℕ)) → List (List ℕ)
parts_of ls = map words_text ls ++ [] ∷ []

-- reading these lines leads from one state to another, whatever follows
record Leads (live : Bool) (s : State) (ls : List (List (List ℕ))) (t : State) : Type 0 where
  leads : (n : ℕ) (rest : List (List (List ℕ))) → lines_taken live s n (parts_of (ls ++ rest)) ≡ lines_taken live t (length ls + n) (parts_of rest)

-- a line with whole lines behind it
one_more : (live : Bool) (s : State) (n : ℕ) (l : List (List ℕ)) (rest : List (List (List ℕ))) → IsLine l → lines_taken live s n (parts_of (l ∷ rest)) ≡ line_done (line_taken live s s.stage l) n (parts_of rest) (λ t. lines_taken live t (suc n) (parts_of rest))
unfolding lines_taken
one_more live s n l [] is = rw (cut-words_text l is) refl
one_more live s n l (k ∷ rest) is = rw (cut-words_text l is) refl

leads_one : (live : Bool) (s t : State) (l : List (List ℕ)) → IsLine l → line_taken live s s.stage l ≡ Ok (false, t) → Leads live s (l ∷ []) t
unfolding line_done
leads_one live s t l is taken = record {
  leads = λ n rest.
      let one : 1 + n ≡ suc n = omega arith in
      one_more live s n l rest is ∙ rw (taken, one) refl;
}

leads_none : (live : Bool) (s : State) → Leads live s [] s
leads_none live s = record { leads = λ n rest. let same : 0 + n ≡ n = omega arith in rw same refl }

leads_both : (live : Bool) (s t u : State) (ls ms : List (List (List ℕ))) → Leads live s ls t → Leads live t ms u → Leads live s (ls ++ ms) u
leads_both live s t u ls ms first second = record {
  leads = λ n rest.
      let lines : (ls ++ ms) ++ rest ≡ ls ++ (ms ++ rest) = append_assoc ls ms rest in
      let count : length ms + (length ls + n) ≡ length (ls ++ ms) + n = rw length-append (omega arith) in
      ap (λ (all : List (List (List ℕ))). lines_taken live s n (parts_of all)) lines ∙ first.leads n (ms ++ rest) ∙ second.leads (length ls + n) rest ∙ ap (λ (k : ℕ). lines_taken live u k (parts_of rest)) count;
}

-- two states that take a line alike
leads_alike : (live : Bool) (s t u : State) (l : List (List ℕ)) (ls : List (List (List ℕ))) → IsLine l → line_taken live s s.stage l ≡ line_taken live t t.stage l → Leads live t (l ∷ ls) u → Leads live s (l ∷ ls) u
leads_alike live s t u l ls is same second = record {
  leads = λ n rest.
      one_more live s n l (ls ++ rest) is ∙ ap (λ r. line_done r n (parts_of (ls ++ rest)) (λ v. lines_taken live v (suc n) (parts_of (ls ++ rest)))) same ∙ sym (one_more live t n l (ls ++ rest) is) ∙ second.leads n rest;
}

-- ---- a state by its parts

abbrev at_stage : Stage → Head → List (List ℕ) → List ObjectDecl → List TxDecl → List Step → State
at_stage stage head names objects txs steps = record { stage = stage; head = head; names = names; objects = objects; txs = txs; steps = steps }

-- ---- the first lines

abbrev with_version : ℕ → Head
with_version v = record { version = v; nodes = 0; slots = 0; directory = []; degree = None }

abbrev with_nodes : ℕ → ℕ → Head
with_nodes v n = record { version = v; nodes = n; slots = 0; directory = []; degree = None }

abbrev with_slots : ℕ → ℕ → ℕ → Head
with_slots v n k = record { version = v; nodes = n; slots = k; directory = []; degree = None }

abbrev with_degree : ℕ → ℕ → ℕ → List ℕ → Option ℕ → Head
with_degree v n k ns d = record { version = v; nodes = n; slots = k; directory = ns; degree = d }

abbrev with_directory : ℕ → ℕ → ℕ → List ℕ → Head
with_directory v n k ns = with_degree v n k ns None

version_1 : version_of (decimal 1) ≡ Ok 1
unfolding version_of
version_1 = rw (decimal_digit 1 (omega arith)) refl

version_2 : version_of (decimal 2) ≡ Ok 2
unfolding version_of
version_2 = rw (decimal_digit 2 (omega arith)) refl

version_of-decimal : (v : ℕ) → 1 ≤ v → v ≤ 2 → version_of (decimal v) ≡ Ok v
version_of-decimal v low high = go (v == 1) refl
  where
    go : (b : Bool) → (v == 1) ≡ b → version_of (decimal v) ≡ Ok v
    go true e = let is : v ≡ 1 = eqb-true v 1 e in rw is version_1
    go false e =
        let other : v ≢ 1 = eqb-false v 1 e in
        let is : v ≡ 2 = omega arith in
        rw is version_2

zeus_leads : (live : Bool) (v : ℕ) → 1 ≤ v → v ≤ 2 → Leads live start ((codes "zeus" ∷ decimal v ∷ []) ∷ []) (at_stage stages.Nodes (with_version v) [] [] [] [])
unfolding start line_taken more version_taken keyword_at word_at ended
zeus_leads live v low high = leads_one live start _ _ (zeus_line v (omega arith)) (rw (version_of-decimal v low high) refl)

nodes_leads : (live : Bool) (v n : ℕ) → 1 ≤ n → n ≤ 8 → Leads live (at_stage stages.Nodes (with_version v) [] [] [] []) ((codes "nodes" ∷ decimal n ∷ []) ∷ []) (at_stage stages.Slots (with_nodes v n) [] [] [] [])
unfolding line_taken more nodes_taken keyword_at word_at ended
nodes_leads live v n low high = leads_one live _ _ _ (nodes_line n (omega arith)) (rw (range_at-decimal 1 9 n [] (omega arith) low (omega arith)) refl)

slots_leads : (live : Bool) (v n k : ℕ) → 1 ≤ k → k ≤ 8 → Leads live (at_stage stages.Slots (with_nodes v n) [] [] [] []) ((codes "slots" ∷ decimal k ∷ []) ∷ []) (at_stage stages.Directory (with_slots v n k) [] [] [] [])
unfolding line_taken more slots_taken keyword_at word_at ended
slots_leads live v n k low high = leads_one live _ _ _ (slots_line k (omega arith)) (rw (range_at-decimal 1 9 k [] (omega arith) low (omega arith)) refl)

some_nodes-some : (ns : List ℕ) → ns ≢ [] → some_nodes ns ≡ Ok ns
some_nodes-some [] some = absurd (some refl)
some_nodes-some (n ∷ ns) some = refl

directory_leads : (live : Bool) (v n k : ℕ) (ns : List ℕ) → n ≤ 8 → ns ≢ [] → IsRising ns → IsBelow n ns → Leads live (at_stage stages.Directory (with_slots v n k) [] [] [] []) ((codes "directory" ∷ map decimal ns) ∷ []) (at_stage stages.Degree (with_directory v n k ns) [] [] [] [])
unfolding line_taken more directory_taken keyword_at word_at HasRoom
directory_leads live v n k ns few some rises below =
    let room : length ns + 0 ≤ n = length-below 0 n ns rises below (omega arith) in
    let listed : nodes_after n (Some n) None [] 0 (map decimal ns) ≡ Ok ns = nodes_after-nodes n (Some n) None [] 0 ns few
    (record { low = none_below 0; rises = rises; below = below; apart = λ k h. no_owner k ns h; room = omega (arith, room) }) in
    leads_one live _ _ _ (directory_line n ns few below) (rw (listed, some_nodes-some ns some) refl)

degree_leads : (live : Bool) (v n k : ℕ) (ns : List ℕ) (d : ℕ) → 1 ≤ d → d ≤ 8 → Leads live (at_stage stages.Degree (with_directory v n k ns) [] [] [] []) ((codes "degree" ∷ decimal d ∷ []) ∷ []) (at_stage stages.Objects (with_degree v n k ns (Some d)) [] [] [] [])
unfolding line_taken body_taken word_at more degree_line_taken degree_taken ended
degree_leads live v n k ns d low high = leads_one live _ _ _ (degree_line d (omega arith)) (rw (range_at-decimal 1 9 d [] (omega arith) low (omega arith)) refl)

-- the first lines without that of the degree
abbrev front_lines : ℕ → ℕ → ℕ → List ℕ → List (List (List ℕ))
front_lines v n k ns = (codes "zeus" ∷ decimal v ∷ []) ∷ (codes "nodes" ∷ decimal n ∷ []) ∷ (codes "slots" ∷ decimal k ∷ []) ∷ (codes "directory" ∷ map decimal ns) ∷ []

front_leads : (live : Bool) (v n k : ℕ) (ns : List ℕ) → (1 ≤ v) × (v ≤ 2) → (1 ≤ n) × (n ≤ 8) → (1 ≤ k) × (k ≤ 8) → ns ≢ [] → IsRising ns → IsBelow n ns → Leads live start (front_lines v n k ns) (at_stage stages.Degree (with_directory v n k ns) [] [] [] [])
front_leads live v n k ns version nodes slots some rises below =
    leads_both live start _ _ ((codes "zeus" ∷ decimal v ∷ []) ∷ []) _ (zeus_leads live v version.0 version.1)
    (leads_both live _ _ _ ((codes "nodes" ∷ decimal n ∷ []) ∷ []) _ (nodes_leads live v n nodes.0 nodes.1)
    (leads_both live _ _ _ ((codes "slots" ∷ decimal k ∷ []) ∷ []) _ (slots_leads live v n k slots.0 slots.1)
    (directory_leads live v n k ns nodes.1 some rises below)))

-- ---- objects

seam : (front : List (List ℕ)) (name : List ℕ) (rest : List (List ℕ)) (d : List ℕ) → get_or (front ++ name ∷ rest) (length front) d ≡ name
seam [] name rest d = refl
seam (f ∷ front) name rest d = seam front name rest d

new_behind : (front : List (List ℕ)) (name : List ℕ) (rest : List (List ℕ)) → AllPairs (λ a b. a ≢ b) (front ++ name ∷ rest) → find front name ≡ None
new_behind front name rest all =
    find-none front name (λ k d lt.
    let within : length front < length (front ++ name ∷ rest) = rw length-append (omega arith) in
    let apart = all k (length front) d lt within in
    let left : get_or (front ++ name ∷ rest) k d ≡ get_or front k d = get_or_append_left front (name ∷ rest) d k lt in
    let right : get_or (front ++ name ∷ rest) (length front) d ≡ name = seam front name rest d in
    λ e. apart (left ∙ e ∙ sym right))

-- behind these first lines an object with its name can be declared
record IsDeclarable (head : Head) (name : List ℕ) (o : ObjectDecl) : Type 0 where
  few : head.nodes ≤ 8
  is : IsName name
  fits : FitsValue head.version o.value
  keeps : KeepsDeclaration head.version head.nodes o

-- where an object is wanted, an object's line adds it
object_taken-line : (head : Head) (names : List (List ℕ)) (objects : List ObjectDecl) (name : List ℕ) (o : ObjectDecl) → IsDeclarable head name o → length names < 256 → find names name ≡ None
    → object_taken (at_stage stages.Objects head names objects [] []) (object_rest name o) ≡ Ok (at_stage stages.Objects head (names ++ name ∷ []) (objects ++ o ∷ []) [] [])
unfolding object_taken
object_taken-line head names objects name o d room new =
    rw (ne_eqb (length names) 256 (λ e. omega arith), object_at-object head.version head.nodes names name o d.few d.is new d.fits d.keeps) refl

object_leads : (live : Bool) (head : Head) (names : List (List ℕ)) (objects : List ObjectDecl) (name : List ℕ) (o : ObjectDecl) → IsDeclarable head name o → length names < 256 → find names name ≡ None
    → Leads live (at_stage stages.Objects head names objects [] []) (object_words name o ∷ []) (at_stage stages.Objects head (names ++ name ∷ []) (objects ++ o ∷ []) [] [])
unfolding line_taken body_taken word_at more object_line_taken object_words
object_leads live head names objects name o d room new =
    leads_one live _ _ _ (object_line head.version head.nodes name o d.few d.is d.fits d.keeps) (rw (object_taken-line head names objects name o d room new) refl)

-- behind these first lines objects with their names can be declared
record AreDeclarable (head : Head) (names : List (List ℕ)) (objects : List ObjectDecl) : Type 0 where
  few : head.nodes ≤ 8
  count : length names ≡ length objects
  each : AllByRecursion IsName names
  fits : AllByRecursion (λ o. FitsValue head.version o.value) objects
  keeps : AllByRecursion (KeepsDeclaration head.version head.nodes) objects

objects_lead : (live : Bool) (head : Head) (front names : List (List ℕ)) (before objects : List ObjectDecl) → AreDeclarable head names objects → length (front ++ names) ≤ 256 → AllPairs (λ a b. a ≢ b) (front ++ names)
    → Leads live (at_stage stages.Objects head front before [] []) (object_lines names objects) (at_stage stages.Objects head (front ++ names) (before ++ objects) [] [])
unfolding object_lines
objects_lead live head front [] before [] d room apart = rw (append-nil front, append-nil before) (leads_none live _)
objects_lead live head front [] before (o ∷ objects) d room apart = absurd (omega (arith, d.count))
objects_lead live head front (name ∷ names) before [] d room apart = absurd (omega (arith, d.count))
objects_lead live head front (name ∷ names) before (o ∷ objects) d room apart =
    let short : length front < 256 = omega (arith, rw length-append at room) in
    let first = object_leads live head front before name o (record { few = d.few; is = d.each.0; fits = d.fits.0; keeps = d.keeps.0 }) short (new_behind front name names apart) in
    let others : AreDeclarable head names objects = record { few = d.few; count = omega (arith, d.count); each = d.each.1; fits = d.fits.1; keeps = d.keeps.1 } in
    let names_together : (front ++ name ∷ []) ++ names ≡ front ++ name ∷ names = append_assoc front (name ∷ []) names in
    let objects_together : (before ++ o ∷ []) ++ objects ≡ before ++ o ∷ objects = append_assoc before (o ∷ []) objects in
    let rest = objects_lead live head (front ++ name ∷ []) names (before ++ o ∷ []) objects others (rw names_together room) (rw names_together apart) in
    leads_both live _ _ _ (object_words name o ∷ []) (object_lines names objects) first (rw (names_together, objects_together) at rest)

-- right behind the directory an object's line is taken as behind an object
first_object : (live : Bool) (head : Head) (name : List ℕ) (o : ObjectDecl) → line_taken live (at_stage stages.Degree head [] [] [] []) stages.Degree (object_words name o) ≡ line_taken live (at_stage stages.Objects head [] [] [] []) stages.Objects (object_words name o)
unfolding line_taken body_taken word_at more degree_line_taken object_line_taken object_words object_taken
first_object live head name o = refl

all_objects_lead : (live : Bool) (head : Head) (names : List (List ℕ)) (objects : List ObjectDecl) → AreDeclarable head names objects → 1 ≤ length objects → length names ≤ 256 → AllPairs (λ a b. a ≢ b) names
    → Leads live (at_stage stages.Degree head [] [] [] []) (object_lines names objects) (at_stage stages.Objects head names objects [] [])
unfolding object_lines
all_objects_lead live head [] [] d some room apart = absurd (omega arith)
all_objects_lead live head [] (o ∷ objects) d some room apart = absurd (omega (arith, d.count))
all_objects_lead live head (name ∷ names) [] d some room apart = absurd (omega arith)
all_objects_lead live head (name ∷ names) (o ∷ objects) d some room apart =
    leads_alike live _ _ _ (object_words name o) (object_lines names objects) (object_line head.version head.nodes name o d.few d.each.0 d.fits.0 d.keeps.0) (first_object live head name o)
    (objects_lead live head [] (name ∷ names) [] (o ∷ objects) d room apart)

abbrev config_with : ℕ → ℕ → ℕ → List ℕ → Option ℕ → List ObjectDecl → Config
config_with v n k ns d objects = record { version = v; nodes = n; slots = k; directory = ns; degree = d; objects = objects }

-- the first lines and the objects, with a degree or without
declared_lead : (live : Bool) (v n k : ℕ) (ns : List ℕ) (d : Option ℕ) (names : List (List ℕ)) (objects : List ObjectDecl) → KeepsLimits (config_with v n k ns d objects) → FitsNames (config_with v n k ns d objects) names → AllByRecursion (λ o. FitsValue v o.value) objects
    → Leads live start (head_lines (config_with v n k ns d objects) ++ object_lines names objects) (at_stage stages.Objects (with_degree v n k ns d) names objects [] [])
unfolding head_lines degree_lines
declared_lead live v n k ns None names objects keeps are values =
    let each = recursion_from_All IsName names are.each in
    let all = recursion_from_All (KeepsDeclaration v n) objects keeps.declared in
    let declarable : AreDeclarable (with_directory v n k ns) names objects = record { few = keeps.nodes.1; count = are.count; each = each; fits = values; keeps = all } in
    leads_both live start _ _ (front_lines v n k ns) (object_lines names objects)
    (front_leads live v n k ns keeps.version keeps.nodes keeps.slots keeps.directory keeps.rising keeps.directory_nodes)
    (all_objects_lead live (with_directory v n k ns) names objects declarable keeps.objects.0 (omega (arith, are.count, keeps.objects.1)) are.distinct)
declared_lead live v n k ns (Some d) names objects keeps are values =
    let each = recursion_from_All IsName names are.each in
    let all = recursion_from_All (KeepsDeclaration v n) objects keeps.declared in
    let declarable : AreDeclarable (with_degree v n k ns (Some d)) names objects = record { few = keeps.nodes.1; count = are.count; each = each; fits = values; keeps = all } in
    leads_both live start _ _ (front_lines v n k ns) ((codes "degree" ∷ decimal d ∷ []) ∷ object_lines names objects)
    (front_leads live v n k ns keeps.version keeps.nodes keeps.slots keeps.directory keeps.rising keeps.directory_nodes)
    (leads_both live _ _ _ ((codes "degree" ∷ decimal d ∷ []) ∷ []) (object_lines names objects)
    (degree_leads live v n k ns d keeps.degree.0 keeps.degree.1)
    (objects_lead live (with_degree v n k ns (Some d)) [] names [] objects declarable (omega (arith, are.count, keeps.objects.1)) are.distinct))

-- ---- transactions

-- the configuration of a state
abbrev config_at : Head → List ObjectDecl → Config
config_at head objects = record { version = head.version; nodes = head.nodes; slots = head.slots; directory = head.directory; degree = head.degree; objects = objects }

-- what the transactions' lines are read with
record Settled (head : Head) (names : List (List ℕ)) (objects : List ObjectDecl) : Type 0 where
  nodes : head.nodes ≤ 8
  slots : head.slots ≤ 8
  count : length names ≡ length objects
  some : 1 ≤ length objects
  are : AreNames names

calm : (live : Bool) (k : ℕ) → (live ≡ true → k < 1000) → (live && (k == 1000)) ≡ false
calm true k h = let less = h refl in ne_eqb k 1000 (λ e. omega arith)
calm false k h = refl

tx_leads : (live : Bool) (head : Head) (names : List (List ℕ)) (objects : List ObjectDecl) (front : List TxDecl) (t : TxDecl) → Settled head names objects → length front < 10000 → (live ≡ true → length front < 1000) → FitsTx (config_at head objects) (length front) t
    → Leads live (at_stage stages.Txs head names objects front []) (tx_words names t ∷ []) (at_stage stages.Txs head names objects (front ++ t ∷ []) [])
unfolding line_taken body_taken word_at more tx_line_taken tx_taken tx_words
tx_leads live head names objects front t set few live_few fits =
    leads_one live _ _ _ (tx_line (config_at head objects) names (length front) t set.nodes set.slots (omega arith) set.are.each set.count fits)
    (rw (calm live (length front) live_few, ne_eqb (length front) 10000 (λ e. omega arith), tx_at-words (config_at head objects) names (length front) t set.nodes set.slots (omega arith) set.count set.are fits) refl)

txs_lead : (live : Bool) (head : Head) (names : List (List ℕ)) (objects : List ObjectDecl) (front ts : List TxDecl) → Settled head names objects → length (front ++ ts) ≤ 10000 → (live ≡ true → length (front ++ ts) ≤ 1000) → FitTxs (config_at head objects) (length front) ts
    → Leads live (at_stage stages.Txs head names objects front []) (map (tx_words names) ts) (at_stage stages.Txs head names objects (front ++ ts) [])
unfolding FitTxs
txs_lead live head names objects front [] set few live_few fits = rw append-nil (leads_none live _)
txs_lead live head names objects front (t ∷ ts) set few live_few fits =
    let count : length (front ++ t ∷ ts) ≡ length front + suc (length ts) = length-append front (t ∷ ts) in
    let first = tx_leads live head names objects front t set (omega arith) (λ h. let most = live_few h in omega arith) fits.0 in
    let together : (front ++ t ∷ []) ++ ts ≡ front ++ t ∷ ts = append_assoc front (t ∷ []) ts in
    let next : suc (length front) ≡ length (front ++ t ∷ []) = omega (arith, length-append front (t ∷ [])) in
    let rest = txs_lead live head names objects (front ++ t ∷ []) ts set (rw together few) (rw together live_few) (rw next at fits.1) in
    leads_both live _ _ _ (tx_words names t ∷ []) (map (tx_words names) ts) first (rw together at rest)

run_leads : (live : Bool) (head : Head) (names : List (List ℕ)) (objects : List ObjectDecl) (txs : List TxDecl) → Leads live (at_stage stages.Txs head names objects txs []) ((codes "run" ∷ []) ∷ []) (at_stage stages.Steps head names objects txs [])
unfolding line_taken body_taken word_at more tx_line_taken run_taken ended
run_leads live head names objects txs = leads_one live _ _ _ run_line refl

-- behind an object, a transaction's line and `run` are taken as behind a transaction
some_objects : (objects : List ObjectDecl) → 1 ≤ length objects → (length objects == 0) ≡ false
some_objects objects some = ne_eqb (length objects) 0 (λ e. omega arith)

first_tx : (live : Bool) (head : Head) (names : List (List ℕ)) (objects : List ObjectDecl) (t : TxDecl) → 1 ≤ length objects → line_taken live (at_stage stages.Objects head names objects [] []) stages.Objects (tx_words names t) ≡ line_taken live (at_stage stages.Txs head names objects [] []) stages.Txs (tx_words names t)
unfolding line_taken body_taken word_at more object_line_taken tx_line_taken tx_taken tx_words
first_tx live head names objects t some = rw (some_objects objects some) refl

first_run : (live : Bool) (head : Head) (names : List (List ℕ)) (objects : List ObjectDecl) → 1 ≤ length objects → line_taken live (at_stage stages.Objects head names objects [] []) stages.Objects (codes "run" ∷ []) ≡ line_taken live (at_stage stages.Txs head names objects [] []) stages.Txs (codes "run" ∷ [])
unfolding line_taken body_taken word_at more object_line_taken tx_line_taken run_taken ended
first_run live head names objects some = rw (some_objects objects some) refl

all_txs_lead : (live : Bool) (head : Head) (names : List (List ℕ)) (objects : List ObjectDecl) (ts : List TxDecl) → Settled head names objects → length ts ≤ 10000 → (live ≡ true → length ts ≤ 1000) → FitTxs (config_at head objects) 0 ts
    → Leads live (at_stage stages.Objects head names objects [] []) (map (tx_words names) ts ++ (codes "run" ∷ []) ∷ []) (at_stage stages.Steps head names objects ts [])
unfolding FitTxs
all_txs_lead live head names objects [] set few live_few fits =
    leads_alike live _ _ _ (codes "run" ∷ []) [] run_line (first_run live head names objects set.some) (run_leads live head names objects [])
all_txs_lead live head names objects (t ∷ ts) set few live_few fits =
    let line = tx_line (config_at head objects) names 0 t set.nodes set.slots (omega arith) set.are.each set.count fits.0 in
    leads_alike live _ _ _ (tx_words names t) (map (tx_words names) ts ++ (codes "run" ∷ []) ∷ []) line (first_tx live head names objects t set.some)
    (leads_both live _ _ _ (map (tx_words names) (t ∷ ts)) ((codes "run" ∷ []) ∷ []) (txs_lead live head names objects [] (t ∷ ts) set few live_few fits) (run_leads live head names objects (t ∷ ts)))

-- ---- steps

no_end : (k : StepWord) → bytes_eq (step_text k) (codes "end") ≡ false
unfolding step_text
no_end words.Begin = refl
no_end words.Try = refl
no_end words.Deliver = refl
no_end words.Tick = refl
no_end words.Stop = refl
no_end words.View = refl
no_end words.Install = refl

-- what the steps' lines are read with
record Bounded (head : Head) (txs : List TxDecl) : Type 0 where
  nodes : head.nodes ≤ 8
  slots : head.slots ≤ 8
  few : length txs ≤ 10000

-- where a step is wanted, a step's line adds it
taken : (head : Head) (names : List (List ℕ)) (objects : List ObjectDecl) (txs : List TxDecl) (front : List Step) (step : Step) → Bounded head txs → length front < 50000 → FitsStep (config_at head objects) (length txs) step
    → line_taken false (at_stage stages.Steps head names objects txs front) stages.Steps (step_text (word_of_step step) ∷ step_rest step) ≡ Ok (false, at_stage stages.Steps head names objects txs (front ++ step ∷ []))
unfolding line_taken body_taken word_at more step_line_taken step_taken
taken head names objects txs front step b room fits =
    rw (no_end (word_of_step step), step_word_of-text (word_of_step step), ne_eqb (length front) 50000 (λ e. omega arith), step_at-words (config_at head objects) (length txs) step b.nodes b.slots (omega (arith, b.few)) fits) refl

step_leads : (head : Head) (names : List (List ℕ)) (objects : List ObjectDecl) (txs : List TxDecl) (front : List Step) (step : Step) → Bounded head txs → length front < 50000 → FitsStep (config_at head objects) (length txs) step
    → Leads false (at_stage stages.Steps head names objects txs front) (step_words step ∷ []) (at_stage stages.Steps head names objects txs (front ++ step ∷ []))
step_leads head names objects txs front step b room fits =
    leads_one false _ _ _ (step_line (config_at head objects) (length txs) step b.nodes b.slots (omega (arith, b.few)) fits) (rw step_words-parts (taken head names objects txs front step b room fits))

steps_lead : (head : Head) (names : List (List ℕ)) (objects : List ObjectDecl) (txs : List TxDecl) (front steps : List Step) → Bounded head txs → length (front ++ steps) ≤ 50000 → AllByRecursion (FitsStep (config_at head objects) (length txs)) steps
    → Leads false (at_stage stages.Steps head names objects txs front) (map step_words steps) (at_stage stages.Steps head names objects txs (front ++ steps))
steps_lead head names objects txs front [] b room fits = rw append-nil (leads_none false _)
steps_lead head names objects txs front (step ∷ steps) b room fits =
    let short : length front < 50000 = omega (arith, rw length-append at room) in
    let first = step_leads head names objects txs front step b short fits.0 in
    let together : (front ++ step ∷ []) ++ steps ≡ front ++ step ∷ steps = append_assoc front (step ∷ []) steps in
    let rest = steps_lead head names objects txs (front ++ step ∷ []) steps b (rw together room) fits.1 in
    leads_both false _ _ _ (step_words step ∷ []) (map step_words steps) first (rw together at rest)

-- with `live` there is no step
all_steps_lead : (live : Bool) (head : Head) (names : List (List ℕ)) (objects : List ObjectDecl) (txs : List TxDecl) (steps : List Step) → Bounded head txs → length steps ≤ 50000 → (live ≡ true → steps ≡ []) → AllByRecursion (FitsStep (config_at head objects) (length txs)) steps
    → Leads live (at_stage stages.Steps head names objects txs []) (map step_words steps) (at_stage stages.Steps head names objects txs steps)
all_steps_lead true head names objects txs steps b room none fits = rw (none refl) (leads_none true _)
all_steps_lead false head names objects txs steps b room none fits = steps_lead head names objects txs [] steps b room fits

-- ---- the whole script

end_read : (live : Bool) (head : Head) (names : List (List ℕ)) (objects : List ObjectDecl) (txs : List TxDecl) (steps : List Step) (n : ℕ) → lines_taken live (at_stage stages.Steps head names objects txs steps) n (parts_of ((codes "end" ∷ []) ∷ [])) ≡ Ok (at_stage stages.Steps head names objects txs steps)
unfolding line_taken body_taken word_at step_line_taken ended line_done is_last
end_read live head names objects txs steps n = one_more live (at_stage stages.Steps head names objects txs steps) n (codes "end" ∷ []) [] end_line

abbrev head_of : Config → Head
head_of c = record { version = c.version; nodes = c.nodes; slots = c.slots; directory = c.directory; degree = c.degree }

-- what was read of a whole script
abbrev whole_state : Script → State
whole_state s = at_stage stages.Steps (head_of s.config) s.names s.config.objects s.txs s.steps

-- the lines of a script are taken
module _ (live : Bool) (s : Script) (fits : FitsScript s) (runs : FitsLive live s) (few_steps : length s.steps ≤ 50000) where
  settled : Settled (head_of s.config) s.names s.config.objects
  settled = record {
    nodes = fits.config.nodes.1;
    slots = fits.config.slots.1;
    count = fits.names.count;
    some = fits.config.objects.0;
    are = record { each = fits.names.each; distinct = fits.names.distinct };
  }

  abbrev declared : List (List (List ℕ))
  declared = head_lines s.config ++ object_lines s.names s.config.objects

  run_lead : Leads live start (declared ++ map (tx_words s.names) s.txs ++ (codes "run" ∷ []) ∷ []) (at_stage stages.Steps (head_of s.config) s.names s.config.objects s.txs [])
  run_lead =
      rw (append_assoc declared (map (tx_words s.names) s.txs) ((codes "run" ∷ []) ∷ []))
      (leads_both live start _ _ declared (map (tx_words s.names) s.txs ++ (codes "run" ∷ []) ∷ [])
      (declared_lead live s.config.version s.config.nodes s.config.slots s.config.directory s.config.degree s.names s.config.objects fits.config fits.names (recursion_from_All (λ o. FitsValue s.config.version o.value) s.config.objects fits.values))
      (all_txs_lead live (head_of s.config) s.names s.config.objects s.txs settled fits.txs.few runs.txs fits.txs.each))

  steps_all : Leads live start (declared ++ map (tx_words s.names) s.txs ++ (codes "run" ∷ []) ∷ [] ++ map step_words s.steps) (whole_state s)
  steps_all =
      leads_both live start _ _ (declared ++ map (tx_words s.names) s.txs ++ (codes "run" ∷ []) ∷ []) (map step_words s.steps) run_lead
      (all_steps_lead live (head_of s.config) s.names s.config.objects s.txs s.steps (record { nodes = fits.config.nodes.1; slots = fits.config.slots.1; few = fits.txs.few }) few_steps runs.steps (recursion_from_All (FitsStep s.config (length s.txs)) s.steps fits.steps))

  all_read : lines_taken live start 1 (parts_of (script_lines s)) ≡ Ok (whole_state s)
  unfolding script_lines
  all_read = steps_all.leads 1 ((codes "end" ∷ []) ∷ []) ∙ end_read live (head_of s.config) s.names s.config.objects s.txs s.steps _

-- ---- each line of a script is one

each_both : {A : Type 0} (P : A → Type 0) (xs ys : List A) → AllByRecursion P xs → AllByRecursion P ys → AllByRecursion P (xs ++ ys)
each_both P [] ys h g = g
each_both P (x ∷ xs) ys h g = (h.0, each_both P xs ys h.1 g)

objects_are : (version nodes : ℕ) (names : List (List ℕ)) (objects : List ObjectDecl) → nodes ≤ 8 → AllByRecursion IsName names → AllByRecursion (λ o. FitsValue version o.value) objects → AllByRecursion (KeepsDeclaration version nodes) objects → AllByRecursion IsLine (object_lines names objects)
unfolding object_lines
objects_are version nodes [] [] few is fits keeps = tt
objects_are version nodes [] (o ∷ objects) few is fits keeps = tt
objects_are version nodes (name ∷ names) [] few is fits keeps = tt
objects_are version nodes (name ∷ names) (o ∷ objects) few is fits keeps =
    (object_line version nodes name o few is.0 fits.0 keeps.0, objects_are version nodes names objects few is.1 fits.1 keeps.1)

txs_are : (config : Config) (names : List (List ℕ)) (k : ℕ) (ts : List TxDecl) → config.nodes ≤ 8 → config.slots ≤ 8 → k + length ts ≤ 2 ^ 64 → All IsName names → length names ≡ length config.objects → FitTxs config k ts → AllByRecursion IsLine (map (tx_words names) ts)
unfolding FitTxs
txs_are config names k [] nodes slots le each same fits = tt
txs_are config names k (t ∷ ts) nodes slots le each same fits =
    (tx_line config names k t nodes slots (omega arith) each same fits.0, txs_are config names (suc k) ts nodes slots (omega arith) each same fits.1)

steps_are : (config : Config) (txs : ℕ) (all : List Step) → config.nodes ≤ 8 → config.slots ≤ 8 → txs ≤ 2 ^ 64 → AllByRecursion (FitsStep config txs) all → AllByRecursion IsLine (map step_words all)
steps_are config txs [] nodes slots le fits = tt
steps_are config txs (step ∷ all) nodes slots le fits = (step_line config txs step nodes slots le fits.0, steps_are config txs all nodes slots le fits.1)

degree_are : (d : Option ℕ) → IfSome d (λ k. (1 ≤ k) × (k ≤ 8)) → AllByRecursion IsLine (degree_lines d)
unfolding degree_lines
degree_are None keeps = tt
degree_are (Some k) keeps = (degree_line k (omega (arith, keeps.1)), tt)

module _ (s : Script) (fits : FitsScript s) where
  head_are : AllByRecursion IsLine (head_lines s.config)
  unfolding head_lines
  head_are =
      let c = fits.config in
      (zeus_line s.config.version (omega (arith, c.version.1)), (nodes_line s.config.nodes (omega (arith, c.nodes.1)), (slots_line s.config.slots (omega (arith, c.slots.1)), (directory_line s.config.nodes s.config.directory c.nodes.1 c.directory_nodes, degree_are s.config.degree c.degree))))

  lines_are : AllByRecursion IsLine (script_lines s)
  unfolding script_lines
  lines_are =
      let config = s.config in
      let nodes = fits.config.nodes.1 in
      let slots = fits.config.slots.1 in
      let names_are = recursion_from_All IsName s.names fits.names.each in
      let objects = head_lines config ++ object_lines s.names config.objects in
      let txs = objects ++ map (tx_words s.names) s.txs in
      let run = txs ++ (codes "run" ∷ []) ∷ [] in
      let with_objects = each_both IsLine (head_lines config) (object_lines s.names config.objects) head_are
      (objects_are config.version config.nodes s.names config.objects nodes names_are (recursion_from_All (λ o. FitsValue config.version o.value) config.objects fits.values) (recursion_from_All (KeepsDeclaration config.version config.nodes) config.objects fits.config.declared)) in
      let with_txs = each_both IsLine objects (map (tx_words s.names) s.txs) with_objects (txs_are config s.names 0 s.txs nodes slots (omega (arith, fits.txs.few)) fits.names.each fits.names.count fits.txs.each) in
      let with_run = each_both IsLine txs ((codes "run" ∷ []) ∷ []) with_txs (run_line, tt) in
      let with_steps = each_both IsLine run (map step_words s.steps) with_run
      (steps_are config (length s.txs) s.steps nodes slots (omega (arith, fits.txs.few)) (recursion_from_All (FitsStep config (length s.txs)) s.steps fits.steps)) in
      each_both IsLine (run ++ map step_words s.steps) ((codes "end" ∷ []) ∷ []) with_steps (end_line, tt)

-- the text of a script is cut into its lines, and they are taken, however long it is
pub record IsTaken (live : Bool) (s : Script) : Type 0 where
  pub parts : cut 10 (spelling s) ≡ map words_text (script_lines s) ++ [] ∷ []
  pub taken : lines_taken live start 1 (cut 10 (spelling s)) ≡ Ok (whole_state s)

-- if a script is one of the language, then its text is cut into its lines, and they are taken
pub text_taken : (live : Bool) (s : Script) → IsOpenedScript (FitsLive live) s → IsTaken live s
unfolding spelling
text_taken live s opened =
    let parts : cut 10 (spelling s) ≡ parts_of (script_lines s) = cut-lines_text (script_lines s) (lines_are s opened.fits) in
    record { parts = parts; taken = rw parts (all_read live s opened.fits opened.opened opened.few_steps) }

-- what is spelled so is read
pub script_read-complete : (live : Bool) (bytes : List ℕ) (s : Script) → IsSpelled bytes s → FitsLive live s → script_read live bytes ≡ Ok s
unfolding script_read scripted script_of
script_read-complete live bytes s spelled runs =
    let short : length bytes ≤ 4194304 = rw spelled.spelled spelled.script.few_bytes in
    let text = text_taken live s record { fits = spelled.script.fits; few_steps = spelled.script.few_steps; opened = runs } in
    rw (le-ltb 4194304 (length bytes) short, ap (cut 10) spelled.spelled, text.taken) refl

-- so of what was returned
pub read_only : (live : Bool) (bytes : List ℕ) (r : Result Script ReadScript) → ReadsScript r (script_read live bytes) → (s : Script) → IsSpelled bytes s → FitsLive live s → ReadsScript r (Ok s)
read_only live bytes r h s spelled runs = rw (script_read-complete live bytes s spelled runs) at h
