-- What the words of a line are that is of its shape.
use Rattle.std.proofs.Common.{◌≡◌, ℕ, Bool, true, false, List, [], ◌∷◌, refl, sym, ap, ◌∙◌}
use Rattle.std.specs.Prelude.{◌==◌, codes, decimal}
use Rattle.std.specs.Str.{bytes_eq}
use Rattle.std.proofs.lemmas.Bool.{eqb-true}
use Rattle.zeus_model.specs.ReportWords.{state_text, tx_state_text}
use Rattle.zeus_model.specs.Spelling.{words_text, value_text}
use Rattle.script_lang.specs.Cut.{cut}
use Rattle.script_lang.proofs.DraftSound.{keyword_at-sound, word_at-sound}
use Rattle.script_lang.proofs.laws.FindLaws.{bytes_eq-true}
use Rattle.script_lang.proofs.laws.NumberLaws.{number_at-sound, range_at-sound}
use Rattle.script_lang.proofs.Sound.{IfRead, read_bind, read_ok, read_err, read_cond, read_weaken}
use Rattle.script_lang.proofs.laws.StepLaws.{ended-sound}
use Rattle.script_lang.proofs.laws.TextLaws.{words_text-cut}
use Rattle.script_lang.proofs.laws.ValueLaws.{value_at-sound}
use Rattle.zeus_audit.specs.Events.{ack_text, stands_text, copy_text}
use Rattle.zeus_audit.specs.Shapes.{ack_shape, tx_state_of, expected, state_shape, copy_state_of, copy_shape}

-- words that were read are the line
line_of_words : (line : List ℕ) (ws : List (List ℕ)) → cut 32 line ≡ ws → line ≡ words_text ws
line_of_words line ws is = sym (words_text-cut line) ∙ ap words_text is

ack_words : (ws : List (List ℕ)) → IfRead (ack_shape ws) (λ k. ws ≡ codes "!" ∷ decimal k ∷ [])
unfolding ack_shape
ack_words ws =
    read_bind _ _ _ (keyword_at-sound (codes "!") ws) (λ a p.
    read_bind _ _ _ (number_at-sound a.1) (λ k q.
    read_bind _ _ _ (ended-sound k.1) (λ e r.
    read_ok _ _ (p ∙ ap (λ l. codes "!" ∷ l) (q.0 ∙ ap (λ l. decimal k.0 ∷ l) r)))))

-- if a line has the shape of an acknowledgement, then it is the text of that acknowledgement
pub ack_shape-sound : (line : List ℕ) → IfRead (ack_shape (cut 32 line)) (λ k. line ≡ ack_text k)
ack_shape-sound line = read_weaken _ _ (λ k p. line_of_words line _ p) (ack_words (cut 32 line))

tx_state_of-sound : (w : List ℕ) → IfRead (tx_state_of w) (λ state. w ≡ tx_state_text state)
unfolding tx_state_of tx_state_text
tx_state_of-sound w =
    read_cond (bytes_eq w (codes "new")) _ _ _ (λ t. read_ok _ _ (bytes_eq-true w (codes "new") t)) (λ _.
    read_cond (bytes_eq w (codes "current")) _ _ _ (λ t. read_ok _ _ (bytes_eq-true w (codes "current") t)) (λ _.
    read_cond (bytes_eq w (codes "pending")) _ _ _ (λ t. read_ok _ _ (bytes_eq-true w (codes "pending") t)) (λ _.
    read_cond (bytes_eq w (codes "passed")) _ _ _ (λ t. read_ok _ _ (bytes_eq-true w (codes "passed") t)) (λ _.
    read_cond (bytes_eq w (codes "acked")) _ _ _ (λ t. read_ok _ _ (bytes_eq-true w (codes "acked") t)) (λ _.
    read_cond (bytes_eq w (codes "refused")) _ _ _ (λ t. read_ok _ _ (bytes_eq-true w (codes "refused") t)) (λ _. read_err _ _))))))

expected-sound : (n k : ℕ) → IfRead (expected (n == k)) (λ _. n ≡ k)
unfolding expected
expected-sound n k = go (n == k) refl
  where
    go : (b : Bool) → (n == k) ≡ b → IfRead (expected b) (λ _. n ≡ k)
    go true t = read_ok tt _ (eqb-true n k t)
    go false t = read_err _ _

state_words : (k : ℕ) (ws : List (List ℕ)) → IfRead (state_shape k ws) (λ state. ws ≡ codes "tx" ∷ decimal k ∷ tx_state_text state ∷ [])
unfolding state_shape
state_words k ws =
    read_bind _ _ _ (keyword_at-sound (codes "tx") ws) (λ a p.
    read_bind _ _ _ (number_at-sound a.1) (λ n q.
    read_bind _ _ {P = λ _. n.0 ≡ k} _ (expected-sound n.0 k) (λ _ same.
    read_bind _ _ _ (word_at-sound n.1) (λ w r.
    read_bind _ _ _ (tx_state_of-sound w.0) (λ state t.
    read_bind _ _ _ (ended-sound w.1) (λ e z.
    read_ok _ _ (p ∙ ap (λ l. codes "tx" ∷ l) (q.0 ∙ (ap (λ m. decimal m ∷ n.1) same ∙ ap (λ l. decimal k ∷ l) (r ∙ (ap (λ v. v ∷ w.1) t ∙ ap (λ l. tx_state_text state ∷ l) z)))))))))))

-- if a line has the shape of a transaction's state, then it is the text of that state
pub state_shape-sound : (k : ℕ) (line : List ℕ) → IfRead (state_shape k (cut 32 line)) (λ state. line ≡ stands_text k state)
state_shape-sound k line = read_weaken _ _ (λ state p. line_of_words line _ p) (state_words k (cut 32 line))

copy_state_of-sound : (w : List ℕ) → IfRead (copy_state_of w) (λ state. w ≡ state_text state)
unfolding copy_state_of state_text
copy_state_of-sound w =
    read_cond (bytes_eq w (codes "valid")) _ _ _ (λ t. read_ok _ _ (bytes_eq-true w (codes "valid") t)) (λ _.
    read_cond (bytes_eq w (codes "invalid")) _ _ _ (λ t. read_ok _ _ (bytes_eq-true w (codes "invalid") t)) (λ _.
    read_cond (bytes_eq w (codes "write")) _ _ _ (λ t. read_ok _ _ (bytes_eq-true w (codes "write") t)) (λ _. read_err _ _)))

copy_words : (nodes version : ℕ) (name : List ℕ) (ws : List (List ℕ))
    → IfRead (copy_shape nodes version name ws) (λ c. ws ≡ codes "copy" ∷ name ∷ decimal c.node ∷ state_text c.state ∷ decimal c.ver ∷ value_text c.value ∷ [])
unfolding copy_shape
copy_words nodes version name ws =
    read_bind _ _ _ (keyword_at-sound (codes "copy") ws) (λ a p.
    read_bind _ _ _ (keyword_at-sound name a.1) (λ b q.
    read_bind _ _ _ (range_at-sound 0 nodes b.1) (λ node r.
    read_bind _ _ _ (word_at-sound node.1) (λ w s.
    read_bind _ _ _ (copy_state_of-sound w.0) (λ state t.
    read_bind _ _ _ (number_at-sound w.1) (λ ver u.
    read_bind _ _ _ (value_at-sound version ver.1) (λ value v.
    read_bind _ _ _ (ended-sound value.1) (λ e z.
    read_ok _ _ (p ∙ ap (λ l. codes "copy" ∷ l) (q ∙ ap (λ l. name ∷ l) (r.0 ∙ ap (λ l. decimal node.0 ∷ l) (s ∙ (ap (λ x. x ∷ w.1) t ∙ ap (λ l. state_text state ∷ l) (u.0 ∙ ap (λ l. decimal ver.0 ∷ l) (v.0 ∙ ap (λ l. value_text value.0 ∷ l) z)))))))))))))))

-- if a line has the shape of a copy, then it is the text of that copy
pub copy_shape-sound : (nodes version : ℕ) (name line : List ℕ) → IfRead (copy_shape nodes version name (cut 32 line)) (λ c. line ≡ copy_text name c.node record { value = c.value; ver = c.ver; state = c.state })
copy_shape-sound nodes version name line = read_weaken _ _ (λ c p. line_of_words line _ p) (copy_words nodes version name (cut 32 line))
