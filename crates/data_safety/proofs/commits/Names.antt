-- A transaction writes only what it names, and no object twice.
use Rattle.std.specs.Prelude.{ℕ, ◌≡◌, ◌≢◌, ◌+◌, true, List, [], ◌∷◌}
use Rattle.std.proofs.Common.{arith, refl, sym, ap, ◌∙◌}
use Rattle.std.proofs.lemmas.Bool.{eq-eqb, true≢false}
use Rattle.std.proofs.lemmas.Bool.Decides.{nat_tests}
use Rattle.zeus_base.specs.declared.value.Value.{Value}
use Rattle.zeus_packet.specs.declared.write.Content.{Content}
use Rattle.zeus_packet.specs.declared.write.Write.{Write}
use Rattle.zeus_txn.specs.declared.ops.Op.{Op}
use Rattle.zeus_txn.specs.Ops.{mentions, named}
use Rattle.zeus_txn.specs.Run.{run}
use Rattle.zeus_txn.specs.RunLaws.{keys, AreDistinct, run-are_of}
use Rattle.zeus_model.specs.In.{In, here, there}
use Rattle.data_safety.specs.DataInvariant.{raised}

-- every written object is among the names
abbrev pub AreNamed : List (ℕ × Value) → List ℕ → Type 0
AreNamed ws seen = (w : ℕ × Value) → In w ws → mentions w.0 seen ≡ true

-- each written object is among the objects of the writes
pub keys-mention : (ws : List (ℕ × Value)) → AreNamed ws (keys ws)
unfolding keys mentions
keys-mention [] w i = elim i [ ]
keys-mention (k ∷ ks) w (here _ _ e) = rw (eq-eqb w.0 k.0 (ap (λ (p : ℕ × Value). p.0) e)) refl
keys-mention (k ∷ ks) w (there _ _ i) = let rest = keys-mention ks w i in grind (arith, nat_tests)

-- what a transaction writes, it names
pub run-named : (found : ℕ → Value) (ops : List Op) → AreNamed (run found ops).writes (named ops)
run-named found ops = λ w i. (run-are_of found ops).named w.0 (keys-mention (run found ops).writes w i)

-- each raised write is a write, with a version one above the one that it finds
pub raised-from : (found : ℕ → Content) (ws : List (ℕ × Value)) (w : Write) → In w (raised found ws) → In (w.obj, w.value) ws × (w.ver ≡ (found w.obj).ver + 1)
unfolding raised
raised-from found [] w i = elim i [ ]
raised-from found (k ∷ ks) w (here _ _ e) = rw e (here k ks refl, refl)
raised-from found (k ∷ ks) w (there _ _ i) = let rest = raised-from found ks w i in (there k ks rest.0, rest.1)

-- ---- no object is written twice

-- each object is written once
unfoldable pub IsOnce : List Write → Type 0
IsOnce [] = Unit {0}
IsOnce (w ∷ ws) = ((v : Write) → In v ws → v.obj ≢ w.obj) × IsOnce ws

-- so it is with writes that have no version yet
unfoldable pub AreOnce : List (ℕ × Value) → Type 0
AreOnce [] = Unit {0}
AreOnce (w ∷ ws) = ((v : ℕ × Value) → In v ws → v.0 ≢ w.0) × AreOnce ws

distinct-once : (ws : List (ℕ × Value)) → AreDistinct (keys ws) → AreOnce ws
unfolding keys AreDistinct AreOnce
distinct-once [] d = tt
distinct-once (w ∷ ws) d = (λ v i is. let known : mentions v.0 (keys ws) ≡ true = keys-mention ws v i in true≢false (sym known ∙ rw is d.0), distinct-once ws d.1)

-- a transaction writes each object once
pub run-once : (found : ℕ → Value) (ops : List Op) → AreOnce (run found ops).writes
run-once found ops = distinct-once (run found ops).writes (run-are_of found ops).distinct

-- if no object is written twice, then neither is one once versions are added
pub raised-once : (found : ℕ → Content) (ws : List (ℕ × Value)) → AreOnce ws → IsOnce (raised found ws)
unfolding raised IsOnce AreOnce
raised-once found [] once = tt
raised-once found (w ∷ ws) once = (λ v i is. once.0 (v.obj, v.value) (raised-from found ws v i).0 is, raised-once found ws once.1)
