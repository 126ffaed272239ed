-- What writes leave: of a map, and of the contents that an entry finds.
use Rattle.std.specs.Prelude.{ℕ, zero, suc, ◌≡◌, ◌≢◌, ◌==◌, ◌+◌, ◌<◌, true, false, List, [], ◌∷◌, ◌++◌, if◌then◌else◌}
use Rattle.std.proofs.Common.{arith, refl, ap, ◌∙◌, inl, inr}
use Rattle.std.proofs.lemmas.Bool.{cases_Bool, eqb-true, eq-eqb}
use Rattle.std.proofs.lemmas.Bool.Decides.{nat_tests}
use Rattle.zeus_base.specs.Tables.{put}
use Rattle.zeus_base.specs.TableLaws.{nth-put_same, nth-put_other}
use Rattle.zeus_base.specs.declared.value.Value.{Value}
use Rattle.zeus_packet.specs.declared.write.Content.{Content}
use Rattle.zeus_packet.specs.declared.write.Write.{Write}
use Rattle.zeus_txn.specs.Map.{no_content, content, run_at, applied_map, written_map}
use Rattle.zeus_txn.specs.Ops.{mentions}
use Rattle.zeus_txn.specs.RunLaws.{keys, AreDistinct}
use Rattle.zeus_txn.specs.declared.map.Versioned.{Versioned}
use Rattle.zeus_txn.specs.declared.ops.Op.{Op}
use Rattle.zeus_txn.specs.declared.reply.Reply.{Reply}
use Rattle.zeus_model.specs.Serial.{serial_map, serial_replies}
use Rattle.data_safety.specs.RunState.{overwritten, running}
use Rattle.data_safety.specs.DataInvariant.{raised}

-- ---- one transaction more

-- the map after transactions and one more is the map after them, with the one more applied
pub serial_map-append : (m : List Versioned) (txs : List (List Op)) (tx : List Op) → serial_map m (txs ++ tx ∷ []) ≡ applied_map (serial_map m txs) tx
unfolding serial_map
serial_map-append m [] tx = refl
serial_map-append m (t ∷ ts) tx = serial_map-append (applied_map m t) ts tx

-- the replies of transactions and one more are their replies, and the one that it has at the end
pub serial_replies-append : (m : List Versioned) (txs : List (List Op)) (tx : List Op)
    → serial_replies m (txs ++ tx ∷ []) ≡ serial_replies m txs ++ (run_at (serial_map m txs) tx).reply ∷ []
unfolding serial_map serial_replies
serial_replies-append m [] tx = refl
serial_replies-append m (t ∷ ts) tx = ap (λ (rs : List Reply). (run_at m t).reply ∷ rs) (serial_replies-append (applied_map m t) ts tx)

-- ---- contents after writes

-- if two contents of an object agree, then they agree after the same writes
pub overwritten-base : (f g : ℕ → Content) (ws : List Write) (x : ℕ) → f x ≡ g x → overwritten f ws x ≡ overwritten g ws x
unfolding overwritten
overwritten-base f g [] x e = e
overwritten-base f g (w ∷ ws) x e =
    ap (λ (c : Content). if x == w.obj then record { ver = w.ver; value = w.value } else c) (overwritten-base f g ws x e)

-- if no write is of the object, then it has the content that it had
pub overwritten-missed : (f found : ℕ → Content) (ws : List (ℕ × Value)) (x : ℕ) → mentions x (keys ws) ≡ false → overwritten f (raised found ws) x ≡ f x
unfolding overwritten raised mentions keys
overwritten-missed f found [] x h = refl
overwritten-missed f found (w ∷ ws) x h =
    elim (cases_Bool (x == w.0)) [
      | inl is ↦ absurd (cc (rw is at h))
      | inr other ↦ rw other (overwritten-missed f found ws x (rw other at h))
    ]

-- if two contents agree on all written objects, then the writes get the same versions of both
pub raised-agree : (f g : ℕ → Content) (ws : List (ℕ × Value)) → ((x : ℕ) → mentions x (keys ws) ≡ true → f x ≡ g x) → raised f ws ≡ raised g ws
unfolding raised mentions keys
raised-agree f g [] same = refl
raised-agree f g (w ∷ ws) same =
    let here : f w.0 ≡ g w.0 = same w.0 (rw (eq-eqb w.0 w.0 refl) refl) in
    rw (here, raised-agree f g ws (λ x h. same x (grind (arith, nat_tests)))) refl

-- if two contents of an object agree and so do the writes of the entries, then they agree after these entries
pub running-agree : (f g : ℕ → Content) (v w : ℕ → List Write) (m x : ℕ) → f x ≡ g x → ((j : ℕ) → j < m → v j ≡ w j) → running f v m x ≡ running g w m x
unfolding running
running-agree f g v w zero x e same = e
running-agree f g v w (suc m) x e same =
    ap (λ (ws : List Write). overwritten (running f v m) ws x) (same m (omega arith))
    ∙ overwritten-base (running f v m) (running g w m) (w m) x (running-agree f g v w m x e (λ j h. same j (omega arith)))

-- the first writes may be taken into what is found
pub running-shift : (f g : ℕ → Content) (v w : ℕ → List Write) (m x : ℕ) → f x ≡ overwritten g (w 0) x → ((j : ℕ) → j < m → v j ≡ w (suc j))
    → running f v m x ≡ running g w (suc m) x
unfolding running
running-shift f g v w zero x e same = e
running-shift f g v w (suc m) x e same =
    ap (λ (ws : List Write). overwritten (running f v m) ws x) (same m (omega arith))
    ∙ overwritten-base (running f v m) (running g w (suc m)) (w (suc m)) x (running-shift f g v w m x e (λ j h. same j (omega arith)))

-- ---- maps as contents

-- the version and the value that a map has of an object
abbrev pub content_in : List Versioned → ℕ → Content
content_in m x = record { ver = (content m x).ver; value = (content m x).value }

-- writes of distinct objects leave in a map what the same writes, with versions, leave of its contents
pub written_map-contents : (m : List Versioned) (ws : List (ℕ × Value)) (x : ℕ) → AreDistinct (keys ws)
    → content_in (written_map m ws) x ≡ overwritten (content_in m) (raised (content_in m) ws) x
unfolding written_map overwritten raised AreDistinct keys
written_map-contents m [] x d = refl
written_map-contents m (w ∷ ws) x d =
    let after : List Versioned = put no_content m w.0 record { ver = (content m w.0).ver + 1; value = w.1 } in
    let rest : content_in (written_map after ws) x ≡ overwritten (content_in after) (raised (content_in after) ws) x = written_map-contents after ws x d.1 in
    elim (cases_Bool (x == w.0)) [
      | inl is ↦
          let same : x ≡ w.0 = eqb-true x w.0 is in
          let missed : overwritten (content_in after) (raised (content_in after) ws) x ≡ content_in after x =
          overwritten-missed (content_in after) (content_in after) ws x (rw same d.0) in
          let put_here : content after w.0 ≡ record { ver = (content m w.0).ver + 1; value = w.1 } = nth-put_same no_content m w.0 record { ver = (content m w.0).ver + 1; value = w.1 } in
          rw is (rest ∙ missed ∙ ap (λ (k : ℕ). content_in after k) same ∙ ap as_content put_here)
      | inr other ↦
          let differs : w.0 ≢ x = λ e. grind (arith, nat_tests) in
          let old_content : content_in after x ≡ content_in m x = ap as_content (nth-put_other no_content m w.0 x record { ver = (content m w.0).ver + 1; value = w.1 } differs) in
          let raised_same : raised (content_in after) ws ≡ raised (content_in m) ws = raised-agree (content_in after) (content_in m) ws (λ k h.
          let away : w.0 ≢ k = λ e. no_key w.0 k (keys ws) d.0 h e in
          ap as_content (nth-put_other no_content m w.0 k record { ver = (content m w.0).ver + 1; value = w.1 } away)) in
          rw other (rest ∙ ap (λ (l : List Write). overwritten (content_in after) l x) raised_same
          ∙ overwritten-base (content_in after) (content_in m) (raised (content_in m) ws) x old_content)
    ]
  where
    as_content : Versioned → Content
    as_content c = record { ver = c.ver; value = c.value }

    no_key : (a k : ℕ) (ks : List ℕ) → mentions a ks ≡ false → mentions k ks ≡ true → a ≡ k → ⊥
    no_key a k ks absent there_is e = let got : mentions a ks ≡ true = rw e there_is in cc
