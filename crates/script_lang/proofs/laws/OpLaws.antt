-- Operations as words: what is read is spelled so, and what is spelled so is read.
use Rattle.std.proofs.Common.{◌≡◌, ◌≢◌, ℕ, ◌<◌, Bool, true, false, cond, List, [], ◌∷◌, ◌++◌, length, Option, Some, None, refl, sym, ap, subst, ◌∙◌}
use Rattle.std.specs.Prelude.{codes, ◌&&◌, ◌==◌}
use Rattle.std.specs.Str.{bytes_eq}
use Rattle.std.proofs.lemmas.Bool.{eq-eqb, eqb-true}
use Rattle.zeus_base.specs.Tables.{nth}
use Rattle.zeus_txn.specs.declared.ops.Op.{Op}
use Rattle.script_lang.specs.Gathered.{takes_object}
use Rattle.zeus_txn.specs.Ops.{object_of}
use Rattle.zeus_model.specs.Scripts.{FitsVersion}
use Rattle.zeus_model.specs.Spelling.{op_words}
use Rattle.script_lang.specs.declared.keywords.OpWord.{OpWord}
use Rattle.script_lang.specs.declared.keywords.OpWord.TheVariants as words
use Rattle.script_lang.specs.Operations.{op_word_of, object_of_word, operand_at, op_rest_at, op_at}
use Rattle.script_lang.specs.Reads.{word_at}
use Rattle.script_lang.proofs.laws.FindLaws.{bytes_eq-true, find-sound}
use Rattle.script_lang.proofs.Naming.{and_true}
use Rattle.script_lang.proofs.laws.NumberLaws.{number_at-sound}
use Rattle.script_lang.proofs.laws.ValueLaws.{name_of_word-sound, value_at-sound}
use Rattle.script_lang.proofs.Sound.{IfRead, read_bind, read_ok, read_err, read_cond, read_or, read_weaken}

-- the word of an operation
unfoldable pub op_text : OpWord → List ℕ
op_text words.Get = codes "get"
op_text words.Put = codes "put"
op_text words.Add = codes "add"
op_text words.Need = codes "need"
op_text words.Same = codes "same"

-- the version has the word
unfoldable pub HasWord : ℕ → OpWord → Type 0
HasWord version words.Get = Unit {0}
HasWord version words.Put = Unit {0}
HasWord version words.Add = Unit {0}
HasWord version words.Need = Unit {0}
HasWord version words.Same = version ≡ 2

abbrev IsWord : ℕ → List ℕ → OpWord → Type 0
IsWord version w k = (w ≡ op_text k) × HasWord version k

abbrev IfWord : ℕ → List ℕ → Option OpWord → Type 0
IfWord version w None = Unit {0}
IfWord version w (Some k) = IsWord version w k

word_choice : (version : ℕ) (w : List ℕ) (b : Bool) (k : OpWord) (rest : Option OpWord) → (b ≡ true → IsWord version w k) → IfWord version w rest → IfWord version w (cond b (Some k) rest)
word_choice version w true k rest h g = h refl
word_choice version w false k rest h g = g

op_word_of-word : (version : ℕ) (w : List ℕ) → IfWord version w (op_word_of version w)
unfolding op_word_of op_text HasWord
op_word_of-word version w =
    word_choice version w (bytes_eq w (codes "get")) words.Get _ (λ t. (bytes_eq-true w (codes "get") t, tt))
    (word_choice version w (bytes_eq w (codes "put")) words.Put _ (λ t. (bytes_eq-true w (codes "put") t, tt))
    (word_choice version w (bytes_eq w (codes "add")) words.Add _ (λ t. (bytes_eq-true w (codes "add") t, tt))
    (word_choice version w (bytes_eq w (codes "need")) words.Need _ (λ t. (bytes_eq-true w (codes "need") t, tt))
    (word_choice version w (bytes_eq w (codes "same") && (version == 2)) words.Same None
    (λ t. let both = and_true (bytes_eq w (codes "same")) (version == 2) t in (bytes_eq-true w (codes "same") both.0, eqb-true version 2 both.1)) tt))))

-- if a word is read as that of an operation, then it is the operation's word, and the version has it
pub op_word_of-sound : (version : ℕ) (w : List ℕ) (k : OpWord) → op_word_of version w ≡ Some k → IsWord version w k
op_word_of-sound version w k h = rw h at (op_word_of-word version w)

-- if the version has an operation's word, then the word is read as that operation
pub op_word_of-text : (version : ℕ) (k : OpWord) → HasWord version k → op_word_of version (op_text k) ≡ Some k
unfolding op_word_of op_text HasWord
op_word_of-text version words.Get h = refl
op_word_of-text version words.Put h = refl
op_word_of-text version words.Add h = refl
op_word_of-text version words.Need h = refl
op_word_of-text version words.Same h = rw (eq-eqb version 2 h) refl

-- an operation that was read behind others
pub record IsOp (version : ℕ) (names : List (List ℕ)) (before : List Op) (ws : List (List ℕ)) (x : Op × List (List ℕ)) : Type 0 where
  pub spelled : ws ≡ op_words names x.0 ++ x.1
  pub object : object_of x.0 < length names
  pub fits : FitsVersion version x.0
  pub takes : takes_object before (object_of x.0) ≡ true
  pub room : length before ≢ 16

-- what holds of an operand that was read
record IsOperand (version : ℕ) (names : List (List ℕ)) (k : OpWord) (o : ℕ) (ws : List (List ℕ)) (x : Op × List (List ℕ)) : Type 0 where
  spelled : op_text k ∷ nth [] names o ∷ ws ≡ op_words names x.0 ++ x.1
  object : object_of x.0 ≡ o
  fits : FitsVersion version x.0

operand_at-sound : (version : ℕ) (names : List (List ℕ)) (k : OpWord) (o : ℕ) (ws : List (List ℕ)) → HasWord version k → IfRead (operand_at version k o ws) (IsOperand version names k o ws)
unfolding operand_at op_text op_words object_of FitsVersion HasWord
operand_at-sound version names words.Get o ws h = read_ok _ _ (record { spelled = refl; object = refl; fits = tt })
operand_at-sound version names words.Put o ws h =
    read_bind _ _ _ (value_at-sound version ws) (λ v p. read_ok _ _ (record { spelled = ap (λ (vs : List (List ℕ)). codes "put" ∷ nth [] names o ∷ vs) p.0; object = refl; fits = p.1 }))
operand_at-sound version names words.Add o ws h =
    read_bind _ _ _ (number_at-sound ws) (λ n p. read_ok _ _ (record { spelled = ap (λ (vs : List (List ℕ)). codes "add" ∷ nth [] names o ∷ vs) p.0; object = refl; fits = p.1 }))
operand_at-sound version names words.Need o ws h =
    read_bind _ _ _ (number_at-sound ws) (λ n p. read_ok _ _ (record { spelled = ap (λ (vs : List (List ℕ)). codes "need" ∷ nth [] names o ∷ vs) p.0; object = refl; fits = p.1 }))
operand_at-sound version names words.Same o ws h =
    read_bind _ _ _ (value_at-sound version ws) (λ v p. read_ok _ _ (record { spelled = ap (λ (vs : List (List ℕ)). codes "same" ∷ nth [] names o ∷ vs) p.0; object = refl; fits = (h, p.1) }))

object_of_word-sound : (names : List (List ℕ)) (before : List Op) (w : List ℕ) → IfRead (object_of_word names before w) (λ o. (nth [] names o ≡ w) × (o < length names) × (takes_object before o ≡ true))
unfolding object_of_word
object_of_word-sound names before w =
    read_bind _ _ _ (name_of_word-sound w) (λ name p.
    read_bind _ _ _ (read_or _ _ _ (find-sound names name)) (λ o f.
    read_cond (takes_object before o) _ _ _ (λ t. read_ok _ _ (f.1 ∙ p.0, f.0, t)) (λ g. read_err _ _)))

-- if an operation is read behind others, then the words spell one that fits there
pub op_at-sound : (version : ℕ) (names : List (List ℕ)) (before : List Op) (ws : List (List ℕ)) → IfRead (op_at version names before ws) (IsOp version names before ws)
unfolding op_at op_rest_at word_at
op_at-sound version names before [] = read_err _ _
op_at-sound version names before (w ∷ []) =
    read_bind _ _ _ (read_or _ _ _ (op_word_of-sound version w)) (λ k p. read_cond (length before == 16) _ _ _ (λ t. read_err _ _) (λ f. read_err _ _))
op_at-sound version names before (w ∷ v ∷ ws) =
    read_bind _ _ _ (read_or _ _ _ (op_word_of-sound version w)) (λ k p.
    read_cond (length before == 16) _ _ _ (λ t. read_err _ _) (λ f.
    let room : length before ≢ 16 = λ e. let full = eq-eqb (length before) 16 e in absurd cc in
    read_bind _ _ _ (object_of_word-sound names before v) (λ o q.
    let word : w ∷ v ∷ ws ≡ op_text k ∷ nth [] names o ∷ ws = ap (λ first. first ∷ v ∷ ws) p.0 ∙ ap (λ second. op_text k ∷ second ∷ ws) (sym q.0) in
    read_weaken _ _ (λ x operand. record {
      spelled = word ∙ operand.spelled;
      object = subst (λ (i : ℕ). i < length names) (sym operand.object) q.1;
      fits = operand.fits;
      takes = subst (λ (i : ℕ). takes_object before i ≡ true) (sym operand.object) q.2;
      room = room;
    }) (operand_at-sound version names k o ws p.1))))
