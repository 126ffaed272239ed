-- What a letter says: what was read was written so, and keeps its ranges.
use Rattle.std.proofs.Common.{◌≡◌, ℕ, zero, suc, ◌+◌, Bool, true, false, ◌&&◌, nat_lt, nat_le, ◌==◌, cond, List, [], ◌∷◌, ◌++◌, length, None, Ok, refl, arith, inl, inr}
use Rattle.std.proofs.lemmas.Bool.{eqb-true}
use Rattle.std.proofs.lemmas.Bool.Decides.{nat_tests}
use Rattle.zeus_base.specs.declared.config.Limits.{Limits}
use Rattle.zeus_packet.specs.Fits.{are_once, body_fits, cause_fits, inv_fits, writes_fit}
use Rattle.zeus_packet.specs.declared.letter.Body.{Body}
use Rattle.zeus_packet.specs.declared.letter.Body.TheVariants.{Recovered}
use Rattle.zeus_packet.specs.declared.letter.Cause.{Cause}
use Rattle.zeus_packet.specs.declared.letter.RInv.{RInv as Inv}
use Rattle.zeus_packet.specs.declared.letter.State.{State}
use Rattle.zeus_packet.specs.declared.place.Want.{Want}
use Rattle.zeus_packet.specs.declared.place.Want.TheVariants.{Own, Read, Leave}
use Rattle.zeus_wire.specs.Ranges.{AreBytes, IsBody, IsCause, IsInv}
use Rattle.zeus_model.specs.PacketSpelling.{body_bytes, cause_bytes, content_bytes, inv_bytes, proposal_bytes, state_byte, u16_bytes, wish_bytes, wish_tag}
use Rattle.zeus_wire.specs.Reading.{Reader, body_at, body_behind, cause_at, cause_behind, gives, held_at, inv_at, kept_at, not_valid_at, oack_at, oinv_at, onack_at, oreq_at, oval_at, plain_cause, proposed_at, rack_at, rinv_at, rval_at, state_at, state_of, u32_at, u8_at}
use Rattle.zeus_wire.proofs.Booleans.{both_true}
use Rattle.zeus_wire.proofs.Fields.{has_wish}
use Rattle.zeus_wire.proofs.Found.{Took, took_both, and_then_ok, checked_ok, either_ok, gives_ok, u8_found, u32_found}
use Rattle.zeus_wire.proofs.FoundFields.{object_found, place_found, proposal_found, set_found, slot_found, stamp_found, stream_found, want_found}
use Rattle.zeus_wire.proofs.FoundValues.{content_found, writes_found}

test_state : (byte : ℕ) → nat_le byte 2 ≡ true → state_byte (state_of byte) ≡ byte
unfolding state_of state_byte
test_state zero h = refl
test_state (suc zero) h = refl
test_state (suc (suc zero)) h = refl
test_state (suc (suc (suc n))) h = absurd (grind (arith, nat_tests))

state_found : (bytes : List ℕ) (y : State × List ℕ) → AreBytes bytes → state_at bytes ≡ Ok y → Took bytes (state_byte y.0 ∷ []) y.1
unfolding state_at
state_found bytes y are e =
    let a = and_then_ok _ _ _ e in
    let c = checked_ok (λ byte. nat_le byte 2) u8_at bytes a.0 a.1 in
    let byte = u8_found bytes a.0 are c.0 in
    rw (gives_ok _ _ _ a.2) (rw (test_state a.0.0 c.1) byte.0)

-- what stands behind a cause's number
record Behind (limits : Limits) (byte : ℕ) (bytes : List ℕ) (y : Cause × List ℕ) : Type 0 where
  text : List ℕ
  spelled : cause_bytes y.0 ≡ byte ∷ text
  took : Took bytes text y.1
  is : IsCause y.0
  fits : cause_fits limits y.0 ≡ true

-- a cause of one byte alone
record IsPlain (byte : ℕ) : Type 0 where
  spelled : cause_bytes (plain_cause byte) ≡ byte ∷ []
  is : IsCause (plain_cause byte)
  fits : (limits : Limits) → cause_fits limits (plain_cause byte) ≡ true

plain : (byte : ℕ) → nat_le byte 17 ≡ true → (byte == 3) ≡ false → (byte == 8) ≡ false → (byte == 9) ≡ false → (byte == 10) ≡ false → IsPlain byte
unfolding plain_cause cause_bytes cause_fits IsCause
plain zero h three eight nine ten = record { spelled = refl; is = tt; fits = λ limits. refl }
plain (suc zero) h three eight nine ten = record { spelled = refl; is = tt; fits = λ limits. refl }
plain (suc (suc zero)) h three eight nine ten = record { spelled = refl; is = tt; fits = λ limits. refl }
plain (suc (suc (suc zero))) h three eight nine ten = absurd cc
plain (suc (suc (suc (suc zero)))) h three eight nine ten = record { spelled = refl; is = tt; fits = λ limits. refl }
plain (suc (suc (suc (suc (suc zero))))) h three eight nine ten = record { spelled = refl; is = tt; fits = λ limits. refl }
plain (suc (suc (suc (suc (suc (suc zero)))))) h three eight nine ten = record { spelled = refl; is = tt; fits = λ limits. refl }
plain (suc (suc (suc (suc (suc (suc (suc zero))))))) h three eight nine ten = record { spelled = refl; is = tt; fits = λ limits. refl }
plain (suc (suc (suc (suc (suc (suc (suc (suc zero)))))))) h three eight nine ten = absurd cc
plain (suc (suc (suc (suc (suc (suc (suc (suc (suc zero))))))))) h three eight nine ten = absurd cc
plain (suc (suc (suc (suc (suc (suc (suc (suc (suc (suc zero)))))))))) h three eight nine ten = absurd cc
plain (suc (suc (suc (suc (suc (suc (suc (suc (suc (suc (suc zero))))))))))) h three eight nine ten = record { spelled = refl; is = tt; fits = λ limits. refl }
plain (suc (suc (suc (suc (suc (suc (suc (suc (suc (suc (suc (suc zero)))))))))))) h three eight nine ten = record { spelled = refl; is = tt; fits = λ limits. refl }
plain (suc (suc (suc (suc (suc (suc (suc (suc (suc (suc (suc (suc (suc zero))))))))))))) h three eight nine ten = record { spelled = refl; is = tt; fits = λ limits. refl }
plain (suc (suc (suc (suc (suc (suc (suc (suc (suc (suc (suc (suc (suc (suc zero)))))))))))))) h three eight nine ten = record { spelled = refl; is = tt; fits = λ limits. refl }
plain (suc (suc (suc (suc (suc (suc (suc (suc (suc (suc (suc (suc (suc (suc (suc zero))))))))))))))) h three eight nine ten = record { spelled = refl; is = tt; fits = λ limits. refl }
plain (suc (suc (suc (suc (suc (suc (suc (suc (suc (suc (suc (suc (suc (suc (suc (suc zero)))))))))))))))) h three eight nine ten = record { spelled = refl; is = tt; fits = λ limits. refl }
plain (suc (suc (suc (suc (suc (suc (suc (suc (suc (suc (suc (suc (suc (suc (suc (suc (suc zero))))))))))))))))) h three eight nine ten = record { spelled = refl; is = tt; fits = λ limits. refl }
plain (suc (suc (suc (suc (suc (suc (suc (suc (suc (suc (suc (suc (suc (suc (suc (suc (suc (suc byte)))))))))))))))))) h three eight nine ten = absurd (grind (arith, nat_tests))

proposed_found : (limits : Limits) (bytes : List ℕ) (y : Cause × List ℕ) → AreBytes bytes → proposed_at limits bytes ≡ Ok y → Behind limits 3 bytes y
unfolding proposed_at cause_bytes cause_fits IsCause
proposed_found limits bytes y are e =
    let a = and_then_ok _ _ _ e in
    let stamp = stamp_found limits bytes a.0 are a.1 in
    rw (gives_ok _ _ _ a.2) record { text = _; spelled = refl; took = stamp.0; is = stamp.1; fits = stamp.2 }

held_found : (limits : Limits) (bytes : List ℕ) (y : Cause × List ℕ) → AreBytes bytes → held_at limits bytes ≡ Ok y → Behind limits 8 bytes y
unfolding held_at cause_bytes cause_fits IsCause
held_found limits bytes y are e =
    let a = and_then_ok _ _ _ e in
    let slot = slot_found limits bytes a.0 are a.1 in
    rw (gives_ok _ _ _ a.2) record { text = _; spelled = refl; took = slot.0; is = tt; fits = slot.1 }

not_valid_found : (limits : Limits) (bytes : List ℕ) (y : Cause × List ℕ) → AreBytes bytes → not_valid_at bytes ≡ Ok y → Behind limits 9 bytes y
unfolding not_valid_at cause_bytes cause_fits IsCause
not_valid_found limits bytes y are e =
    let a = and_then_ok _ _ _ e in
    let state = state_found bytes a.0 are a.1 in
    rw (gives_ok _ _ _ a.2) record { text = _; spelled = refl; took = state; is = tt; fits = refl }

kept_found : (limits : Limits) (bytes : List ℕ) (y : Cause × List ℕ) → AreBytes bytes → kept_at limits bytes ≡ Ok y → Behind limits 10 bytes y
unfolding kept_at cause_bytes cause_fits IsCause
kept_found limits bytes y are e =
    let a = and_then_ok _ _ _ e in
    let slot = slot_found limits bytes a.0 are a.1 in
    rw (gives_ok _ _ _ a.2) record { text = _; spelled = refl; took = slot.0; is = tt; fits = slot.1 }

behind_found : (limits : Limits) (byte : ℕ) (bytes : List ℕ) (y : Cause × List ℕ) → AreBytes bytes → nat_le byte 17 ≡ true → cause_behind limits byte bytes ≡ Ok y → Behind limits byte bytes y
unfolding cause_behind
behind_found limits byte bytes y are h e =
    elim (either_ok (byte == 3) (proposed_at limits) (cond (byte == 8) (held_at limits) (cond (byte == 9) not_valid_at (cond (byte == 10) (kept_at limits) (gives (plain_cause byte))))) bytes y e) [
      | inl p ↦ rw (eqb-true byte 3 p.0) (proposed_found limits bytes y are p.1)
      | inr q ↦ elim (either_ok (byte == 8) (held_at limits) (cond (byte == 9) not_valid_at (cond (byte == 10) (kept_at limits) (gives (plain_cause byte)))) bytes y q.1) [
        | inl p ↦ rw (eqb-true byte 8 p.0) (held_found limits bytes y are p.1)
        | inr r ↦ elim (either_ok (byte == 9) not_valid_at (cond (byte == 10) (kept_at limits) (gives (plain_cause byte))) bytes y r.1) [
          | inl p ↦ rw (eqb-true byte 9 p.0) (not_valid_found limits bytes y are p.1)
          | inr s ↦ elim (either_ok (byte == 10) (kept_at limits) (gives (plain_cause byte)) bytes y s.1) [
            | inl p ↦ rw (eqb-true byte 10 p.0) (kept_found limits bytes y are p.1)
            | inr t ↦
                let is = plain byte h q.0 r.0 s.0 t.0 in
                rw (gives_ok _ _ _ t.1) record { text = []; spelled = is.spelled; took = record { parts = refl; left = are }; is = is.is; fits = is.fits limits }
          ]
        ]
      ]
    ]

cause_found : (limits : Limits) (bytes : List ℕ) (y : Cause × List ℕ) → AreBytes bytes → cause_at limits bytes ≡ Ok y → Took bytes (cause_bytes y.0) y.1 × IsCause y.0 × (cause_fits limits y.0 ≡ true)
unfolding cause_at
cause_found limits bytes y are e =
    let a = and_then_ok _ _ _ e in
    let c = checked_ok (λ byte. nat_le byte 17) u8_at bytes a.0 a.1 in
    let byte = u8_found bytes a.0 are c.0 in
    let behind = behind_found limits a.0.0 a.0.1 y byte.0.left c.1 a.2 in
    (rw behind.spelled (took_both _ _ _ _ _ byte.0 behind.took), behind.is, behind.fits)

once_none : are_once [] ≡ true
unfolding are_once
once_none = refl

inv_found : (limits : Limits) (bytes : List ℕ) (y : Inv × List ℕ) → AreBytes bytes → inv_at limits bytes ≡ Ok y → Took bytes (inv_bytes limits.version y.0) y.1 × IsInv y.0 × (inv_fits limits y.0 ≡ true)
unfolding inv_at inv_bytes inv_fits writes_fit
inv_found limits bytes y are e =
    let a = and_then_ok _ _ _ e in
    let b = and_then_ok _ _ _ a.2 in
    let c = and_then_ok _ _ _ b.2 in
    let d = and_then_ok _ _ _ c.2 in
    let f = and_then_ok _ _ _ d.2 in
    let g = and_then_ok _ _ _ f.2 in
    let stream = stream_found limits bytes a.0 are a.1 in
    let below = checked_ok (λ n. nat_lt n 4294967295) u32_at a.0.1 b.0 b.1 in
    let number = u32_found a.0.1 b.0 stream.0.left below.0 in
    let passed = checked_ok (λ d. nat_le d b.0.0) u32_at b.0.1 c.0 c.1 in
    let done = u32_found b.0.1 c.0 number.0.left passed.0 in
    let followers = set_found limits c.0.1 d.0 done.0.left d.1 in
    let counted = checked_ok (λ n. nat_le 1 n && nat_le n 8) u8_at d.0.1 f.0 f.1 in
    let count = u8_found d.0.1 f.0 followers.0.left counted.0 in
    let writes = writes_found limits f.0.0 [] f.0.1 g.0 count.0.left once_none g.1 in
    let few = both_true (nat_le 1 f.0.0) (nat_le f.0.0 8) counted.1 in
    let is : g.0.0 ≡ writes.added = writes.is in
    let size : length writes.added ≡ f.0.0 = writes.count_is in
    let once : are_once writes.added ≡ true = rw (← is) writes.once in
    let sized : Took d.0.1 (length writes.added ∷ []) f.0.1 = rw size count.0 in
    rw (gives_ok _ _ _ g.2, is) (
      took_both _ _ _ _ _ stream.0 (took_both _ _ _ _ _ number.0 (took_both _ _ _ _ _ done.0 (took_both _ _ _ _ _ followers.0 (took_both _ _ _ _ _ sized writes.text)))),
      record { number = number.1; done = done.1; followers = followers.1; writes = writes.are },
      rw (stream.1, below.1, passed.1, followers.2, size, few.0, few.1, writes.fit, once) refl,
    )

-- what stands behind a tag
record Told (limits : Limits) (tag : ℕ) (bytes : List ℕ) (y : Body × List ℕ) : Type 0 where
  text : List ℕ
  spelled : body_bytes limits.version y.0 ≡ tag ∷ text
  took : Took bytes text y.1
  is : IsBody y.0
  fits : body_fits limits y.0 ≡ true

rinv_found : (limits : Limits) (bytes : List ℕ) (y : Body × List ℕ) → AreBytes bytes → rinv_at limits bytes ≡ Ok y → Told limits 1 bytes y
unfolding rinv_at body_bytes body_fits IsBody
rinv_found limits bytes y are e =
    let a = and_then_ok _ _ _ e in
    let inv = inv_found limits bytes a.0 are a.1 in
    rw (gives_ok _ _ _ a.2) record { text = _; spelled = refl; took = inv.0; is = inv.1; fits = inv.2 }

rack_found : (limits : Limits) (bytes : List ℕ) (y : Body × List ℕ) → AreBytes bytes → rack_at limits bytes ≡ Ok y → Told limits 2 bytes y
unfolding rack_at body_bytes body_fits IsBody
rack_found limits bytes y are e =
    let a = and_then_ok _ _ _ e in
    let b = and_then_ok _ _ _ a.2 in
    let stream = stream_found limits bytes a.0 are a.1 in
    let number = u32_found a.0.1 b.0 stream.0.left b.1 in
    rw (gives_ok _ _ _ b.2) record { text = _; spelled = refl; took = took_both _ _ _ _ _ stream.0 number.0; is = number.1; fits = stream.1 }

rval_found : (limits : Limits) (bytes : List ℕ) (y : Body × List ℕ) → AreBytes bytes → rval_at limits bytes ≡ Ok y → Told limits 3 bytes y
unfolding rval_at body_bytes body_fits IsBody
rval_found limits bytes y are e =
    let a = and_then_ok _ _ _ e in
    let b = and_then_ok _ _ _ a.2 in
    let stream = stream_found limits bytes a.0 are a.1 in
    let done = u32_found a.0.1 b.0 stream.0.left b.1 in
    rw (gives_ok _ _ _ b.2) record { text = _; spelled = refl; took = took_both _ _ _ _ _ stream.0 done.0; is = done.1; fits = stream.1 }

-- the tag of a wish, told by whether the wish has a byte
tag_if : ℕ → Bool → ℕ
tag_if tag wishes = cond wishes (tag + 16) tag

wish_tag_if : (tag : ℕ) (want : Want) (wishes : Bool) → has_wish want ≡ wishes → wish_tag tag want ≡ tag_if tag wishes
unfolding wish_tag has_wish tag_if
wish_tag_if tag Own wishes h = rw (← h) refl
wish_tag_if tag Read wishes h = rw (← h) refl
wish_tag_if tag Leave wishes h = rw (← h) refl

oreq_found : (limits : Limits) (wishes : Bool) (bytes : List ℕ) (y : Body × List ℕ) → AreBytes bytes → oreq_at limits wishes bytes ≡ Ok y → Told limits (tag_if 4 wishes) bytes y
unfolding oreq_at body_bytes body_fits IsBody
oreq_found limits wishes bytes y are e =
    let a = and_then_ok _ _ _ e in
    let b = and_then_ok _ _ _ a.2 in
    let obj = object_found limits bytes a.0 are a.1 in
    let want = want_found wishes a.0.1 b.0 obj.0.left b.1 in
    rw (gives_ok _ _ _ b.2) record { text = u16_bytes a.0.0 ++ wish_bytes b.0.0; spelled = rw (wish_tag_if 4 b.0.0 wishes want.1) refl; took = took_both _ _ _ _ _ obj.0 want.0; is = tt; fits = obj.1 }

oinv_found : (limits : Limits) (wishes : Bool) (bytes : List ℕ) (y : Body × List ℕ) → AreBytes bytes → oinv_at limits wishes bytes ≡ Ok y → Told limits (tag_if 5 wishes) bytes y
unfolding oinv_at body_bytes body_fits IsBody
oinv_found limits wishes bytes y are e =
    let a = and_then_ok _ _ _ e in
    let b = and_then_ok _ _ _ a.2 in
    let c = and_then_ok _ _ _ b.2 in
    let obj = object_found limits bytes a.0 are a.1 in
    let want = want_found wishes a.0.1 b.0 obj.0.left b.1 in
    let p = proposal_found limits b.0.0 b.0.1 c.0 want.0.left c.1 in
    let wished : Took a.0.1 (wish_bytes c.0.0.want) b.0.1 = rw p.3 want.0 in
    let tagged : has_wish c.0.0.want ≡ wishes = rw p.3 want.1 in
    rw (gives_ok _ _ _ c.2) record {
      text = u16_bytes a.0.0 ++ (wish_bytes c.0.0.want ++ proposal_bytes c.0.0);
      spelled = rw (wish_tag_if 5 c.0.0.want wishes tagged) refl;
      took = took_both _ _ _ _ _ obj.0 (took_both _ _ _ _ _ wished p.0);
      is = p.1;
      fits = rw (obj.1, p.2) refl;
    }

oack_found : (limits : Limits) (wishes : Bool) (bytes : List ℕ) (y : Body × List ℕ) → AreBytes bytes → oack_at limits wishes bytes ≡ Ok y → Told limits (tag_if 6 wishes) bytes y
unfolding oack_at body_bytes body_fits IsBody
oack_found limits wishes bytes y are e =
    let a = and_then_ok _ _ _ e in
    let b = and_then_ok _ _ _ a.2 in
    let c = and_then_ok _ _ _ b.2 in
    let d = and_then_ok _ _ _ c.2 in
    let obj = object_found limits bytes a.0 are a.1 in
    let want = want_found wishes a.0.1 b.0 obj.0.left b.1 in
    let p = proposal_found limits b.0.0 b.0.1 c.0 want.0.left c.1 in
    let content = content_found limits c.0.1 d.0 p.0.left d.1 in
    let wished : Took a.0.1 (wish_bytes c.0.0.want) b.0.1 = rw p.3 want.0 in
    let tagged : has_wish c.0.0.want ≡ wishes = rw p.3 want.1 in
    rw (gives_ok _ _ _ d.2) record {
      text = u16_bytes a.0.0 ++ (wish_bytes c.0.0.want ++ (proposal_bytes c.0.0 ++ content_bytes limits.version d.0.0));
      spelled = rw (wish_tag_if 6 c.0.0.want wishes tagged) refl;
      took = took_both _ _ _ _ _ obj.0 (took_both _ _ _ _ _ wished (took_both _ _ _ _ _ p.0 content.0));
      is = (p.1, content.1);
      fits = rw (obj.1, p.2, content.2) refl;
    }

onack_found : (limits : Limits) (bytes : List ℕ) (y : Body × List ℕ) → AreBytes bytes → onack_at limits bytes ≡ Ok y → Told limits 7 bytes y
unfolding onack_at body_bytes body_fits IsBody
onack_found limits bytes y are e =
    let a = and_then_ok _ _ _ e in
    let b = and_then_ok _ _ _ a.2 in
    let c = and_then_ok _ _ _ b.2 in
    let obj = object_found limits bytes a.0 are a.1 in
    let stamp = stamp_found limits a.0.1 b.0 obj.0.left b.1 in
    let cause = cause_found limits b.0.1 c.0 stamp.0.left c.1 in
    rw (gives_ok _ _ _ c.2) record { text = _; spelled = refl; took = took_both _ _ _ _ _ obj.0 (took_both _ _ _ _ _ stamp.0 cause.0); is = (stamp.1, cause.1); fits = rw (obj.1, stamp.2, cause.2) refl }

oval_found : (limits : Limits) (bytes : List ℕ) (y : Body × List ℕ) → AreBytes bytes → oval_at limits bytes ≡ Ok y → Told limits 8 bytes y
unfolding oval_at body_bytes body_fits IsBody
oval_found limits bytes y are e =
    let a = and_then_ok _ _ _ e in
    let b = and_then_ok _ _ _ a.2 in
    let c = and_then_ok _ _ _ b.2 in
    let obj = object_found limits bytes a.0 are a.1 in
    let stamp = stamp_found limits a.0.1 b.0 obj.0.left b.1 in
    let place = place_found limits None b.0.1 c.0 stamp.0.left c.1 in
    rw (gives_ok _ _ _ c.2) record { text = _; spelled = refl; took = took_both _ _ _ _ _ obj.0 (took_both _ _ _ _ _ stamp.0 place.0); is = (stamp.1, place.1); fits = rw (obj.1, stamp.2, place.2) refl }

recovered_found : (limits : Limits) (bytes : List ℕ) (y : Body × List ℕ) → AreBytes bytes → gives Recovered bytes ≡ Ok y → Told limits 9 bytes y
unfolding body_bytes body_fits IsBody
recovered_found limits bytes y are e = rw (gives_ok Recovered bytes y e) record { text = []; spelled = refl; took = record { parts = refl; left = are }; is = tt; fits = refl }

-- a reader behind its tag, or the readers of the other tags
tag_found : (limits : Limits) (tag k : ℕ) (r others : Reader Body) (bytes : List ℕ) (y : Body × List ℕ) → (r bytes ≡ Ok y → Told limits k bytes y) → (others bytes ≡ Ok y → Told limits tag bytes y) → cond (tag == k) r others bytes ≡ Ok y → Told limits tag bytes y
tag_found limits tag k r others bytes y first rest e =
    elim (either_ok (tag == k) r others bytes y e) [
      | inl p ↦ rw (eqb-true tag k p.0) (first p.1)
      | inr q ↦ rest q.1
    ]

told : (limits : Limits) (left tag : ℕ) (bytes : List ℕ) (y : Body × List ℕ) → AreBytes bytes → body_behind limits left tag bytes ≡ Ok y → Told limits tag bytes y
unfolding body_behind tag_if
told limits left tag bytes y are e =
    tag_found limits tag 1 (rinv_at limits) _ bytes y (rinv_found limits bytes y are)
    (tag_found limits tag 2 (rack_at limits) _ bytes y (rack_found limits bytes y are)
    (tag_found limits tag 3 (rval_at limits) _ bytes y (rval_found limits bytes y are)
    (tag_found limits tag 4 (oreq_at limits false) _ bytes y (oreq_found limits false bytes y are)
    (tag_found limits tag 5 (oinv_at limits false) _ bytes y (oinv_found limits false bytes y are)
    (tag_found limits tag 6 (oack_at limits false) _ bytes y (oack_found limits false bytes y are)
    (tag_found limits tag 7 (onack_at limits) _ bytes y (onack_found limits bytes y are)
    (tag_found limits tag 8 (oval_at limits) _ bytes y (oval_found limits bytes y are)
    (tag_found limits tag 9 (gives Recovered) _ bytes y (recovered_found limits bytes y are)
    (tag_found limits tag 20 (oreq_at limits true) _ bytes y (oreq_found limits true bytes y are)
    (tag_found limits tag 21 (oinv_at limits true) _ bytes y (oinv_found limits true bytes y are)
    (tag_found limits tag 22 (oack_at limits true) _ bytes y (oack_found limits true bytes y are) (λ none. absurd cc)))))))))))) e

-- what a letter says that was read was written so, and keeps its range
pub body_found : (limits : Limits) (bytes : List ℕ) (y : Body × List ℕ) → AreBytes bytes → body_at limits bytes ≡ Ok y → Took bytes (body_bytes limits.version y.0) y.1 × IsBody y.0 × (body_fits limits y.0 ≡ true)
unfolding body_at
body_found limits bytes y are e =
    let a = and_then_ok (u8_at bytes) (body_behind limits (length bytes)) y e in
    let tag = u8_found bytes a.0 are a.1 in
    let behind = told limits (length bytes) a.0.0 a.0.1 y tag.0.left a.2 in
    (rw behind.spelled (took_both _ _ _ _ _ tag.0 behind.took), behind.is, behind.fits)
