-- What a letter says: what was written is read again.
use Rattle.std.proofs.Common.{◌≡◌, ℕ, ◌^◌, ◌≤◌, true, ◌&&◌, nat_lt, nat_le, List, [], ◌∷◌, ◌++◌, length, Option, None, Ok, refl, ◌∙◌, append_assoc, arith}
use Rattle.std.specs.List.{list_all}
use Rattle.zeus_base.specs.declared.config.Limits.{Limits}
use Rattle.zeus_packet.specs.Fits.{are_once, body_fits, cause_fits, content_fits, inv_fits, nodes_fit, object_fits, place_fits, proposal_fits, stamp_fits, stream_fits, write_fits, writes_fit}
use Rattle.zeus_packet.specs.declared.letter.Body.{Body}
use Rattle.zeus_packet.specs.declared.letter.Body.TheVariants.{RInv, RAck, RVal, OReq, OInv, OAck, ONack, OVal, Recovered}
use Rattle.zeus_packet.specs.declared.letter.Cause.{Cause}
use Rattle.zeus_packet.specs.declared.letter.Cause.TheVariants.{OwnStream, Window, NotDirectory, Proposed, Owns, HasCopy, NotReader, NoSource, Degree, IsSource, WornOut, NoCopy, Held, NotValid, Kept, NotArbiter, NotCollector, OwnPlace}
use Rattle.zeus_packet.specs.declared.letter.RInv.{RInv as Inv}
use Rattle.zeus_packet.specs.declared.letter.State.{State}
use Rattle.zeus_packet.specs.declared.letter.State.TheVariants.{Valid, Invalid, Write as Writing}
use Rattle.zeus_packet.specs.declared.place.Proposal.{Proposal}
use Rattle.zeus_packet.specs.declared.place.Want.{Want}
use Rattle.zeus_packet.specs.declared.place.Want.TheVariants.{Own, Read, Leave}
use Rattle.zeus_packet.specs.declared.write.Content.{Content}
use Rattle.zeus_wire.specs.Ranges.{AreLimits, IsBody, IsCause, IsContent, IsInv, IsProposal}
use Rattle.zeus_model.specs.PacketSpelling.{body_bytes, cause_bytes, content_bytes, inv_bytes, place_bytes, proposal_bytes, set_bytes, stamp_bytes, state_byte, stream_bytes, u16_bytes, u32_bytes, wish_bytes, wish_tag, writes_bytes}
use Rattle.zeus_wire.specs.Reading.{and_then, body_at, body_behind, cause_at, cause_behind, has_leaver, held_at, inv_at, kept_at, may_own, not_valid_at, oack_at, oinv_at, onack_at, oreq_at, oval_at, plain_cause, proposed_at, rack_at, rinv_at, rval_at, state_at, state_of, u8_at}
use Rattle.zeus_wire.proofs.Booleans.{both_true}
use Rattle.zeus_wire.proofs.Numbers.{u32_again, u8_again}
use Rattle.zeus_wire.proofs.Fields.{has_wish, object_again, place_again, proposal_again, set_again, slot_again, stamp_again, stream_again, want_again}
use Rattle.zeus_wire.proofs.Values.{content_again, writes_again}

state_again : (s : State) (rest : List ℕ) → state_at (state_byte s ∷ rest) ≡ Ok (s, rest)
unfolding state_at state_of state_byte u8_at and_then
state_again Valid rest = refl
state_again Invalid rest = refl
state_again Writing rest = refl

cause_again : (limits : Limits) (cause : Cause) (rest : List ℕ) → IsCause cause → cause_fits limits cause ≡ true → cause_at limits (cause_bytes cause ++ rest) ≡ Ok (cause, rest)
unfolding cause_at cause_behind plain_cause proposed_at held_at not_valid_at kept_at cause_bytes cause_fits IsCause u8_at and_then
cause_again limits OwnStream rest is fits = refl
cause_again limits Window rest is fits = refl
cause_again limits NotDirectory rest is fits = refl
cause_again limits (Proposed stamp) rest is fits = rw (stamp_again limits stamp rest is fits) refl
cause_again limits Owns rest is fits = refl
cause_again limits HasCopy rest is fits = refl
cause_again limits NotReader rest is fits = refl
cause_again limits NoSource rest is fits = refl
cause_again limits Degree rest is fits = refl
cause_again limits IsSource rest is fits = refl
cause_again limits WornOut rest is fits = refl
cause_again limits NoCopy rest is fits = refl
cause_again limits (Held slot) rest is fits = rw (slot_again limits slot rest fits) refl
cause_again limits (NotValid state) rest is fits = rw (state_again state rest) refl
cause_again limits (Kept slot) rest is fits = rw (slot_again limits slot rest fits) refl
cause_again limits NotArbiter rest is fits = refl
cause_again limits NotCollector rest is fits = refl
cause_again limits OwnPlace rest is fits = refl

inv_again : (limits : Limits) (r : Inv) (rest : List ℕ) → AreLimits limits → IsInv r → inv_fits limits r ≡ true → inv_at limits (inv_bytes limits.version r ++ rest) ≡ Ok (r, rest)
unfolding inv_at inv_bytes inv_fits writes_fit and_then
inv_again limits r rest are is fits =
    let stream : stream_fits limits r.stream ≡ true = grind arith in
    let number : nat_lt r.number 4294967295 ≡ true = grind arith in
    let done : nat_le r.done r.number ≡ true = grind arith in
    let followers : nodes_fit limits r.followers ≡ true = grind arith in
    let some : nat_le 1 (length r.writes) ≡ true = grind arith in
    let few : nat_le (length r.writes) 8 ≡ true = grind arith in
    let each : list_all (write_fits limits) r.writes ≡ true = grind arith in
    let once : are_once r.writes ≡ true = grind arith in
    let last : List ℕ = writes_bytes limits.version r.writes ++ rest in
    let regrouped : inv_bytes limits.version r ++ rest ≡ stream_bytes r.stream ++ (u32_bytes r.number ++ (u32_bytes r.done ++ (set_bytes r.followers ++ (length r.writes ∷ (writes_bytes limits.version r.writes ++ rest))))) = simp append_assoc in
    rw (
      regrouped,
      stream_again limits r.stream (u32_bytes r.number ++ (u32_bytes r.done ++ (set_bytes r.followers ++ (length r.writes ∷ last)))) stream,
      u32_again r.number (u32_bytes r.done ++ (set_bytes r.followers ++ (length r.writes ∷ last))) is.number,
      number,
      u32_again r.done (set_bytes r.followers ++ (length r.writes ∷ last)) is.done,
      done,
      set_again limits r.followers (length r.writes ∷ last) is.followers followers,
      u8_again (length r.writes) last,
      some,
      few,
      writes_again limits [] r.writes rest are is.writes each once,
    ) refl

oreq_again : (limits : Limits) (x : ℕ) (want : Want) (rest : List ℕ) → limits.objects ≤ 2 ^ 16 → object_fits limits x ≡ true → oreq_at limits (has_wish want) ((u16_bytes x ++ wish_bytes want) ++ rest) ≡ Ok (OReq x want, rest)
unfolding oreq_at and_then
oreq_again limits x want rest few fits =
    rw (append_assoc (u16_bytes x) (wish_bytes want) rest, object_again limits x (wish_bytes want ++ rest) few fits, want_again want rest) refl

oinv_again : (limits : Limits) (x : ℕ) (p : Proposal) (rest : List ℕ) → limits.objects ≤ 2 ^ 16 → object_fits limits x ≡ true → IsProposal p → proposal_fits limits p ≡ true
    → oinv_at limits (has_wish p.want) ((u16_bytes x ++ (wish_bytes p.want ++ proposal_bytes p)) ++ rest) ≡ Ok (OInv x p, rest)
unfolding oinv_at and_then
oinv_again limits x p rest few fits is proposal =
    let regrouped : (u16_bytes x ++ (wish_bytes p.want ++ proposal_bytes p)) ++ rest ≡ u16_bytes x ++ (wish_bytes p.want ++ (proposal_bytes p ++ rest)) = simp append_assoc in
    rw (regrouped, object_again limits x (wish_bytes p.want ++ (proposal_bytes p ++ rest)) few fits, want_again p.want (proposal_bytes p ++ rest), proposal_again limits p rest is proposal) refl

oack_again : (limits : Limits) (x : ℕ) (p : Proposal) (content : Option Content) (rest : List ℕ) → limits.objects ≤ 2 ^ 16 → object_fits limits x ≡ true → IsProposal p → proposal_fits limits p ≡ true → IsContent content → content_fits limits content ≡ true
    → oack_at limits (has_wish p.want) ((u16_bytes x ++ (wish_bytes p.want ++ (proposal_bytes p ++ content_bytes limits.version content))) ++ rest) ≡ Ok (OAck x p content, rest)
unfolding oack_at and_then
oack_again limits x p content rest few fits is proposal held carried =
    let last : List ℕ = content_bytes limits.version content ++ rest in
    let regrouped : (u16_bytes x ++ (wish_bytes p.want ++ (proposal_bytes p ++ content_bytes limits.version content))) ++ rest ≡ u16_bytes x ++ (wish_bytes p.want ++ (proposal_bytes p ++ (content_bytes limits.version content ++ rest))) = simp append_assoc in
    rw (regrouped, object_again limits x (wish_bytes p.want ++ (proposal_bytes p ++ last)) few fits, want_again p.want (proposal_bytes p ++ last), proposal_again limits p last is proposal, content_again limits content rest held carried) refl

-- each wish under its tag
wish_tagged : (limits : Limits) (want : Want) (left : ℕ) (bytes : List ℕ) →
    (body_behind limits left (wish_tag 4 want) bytes ≡ oreq_at limits (has_wish want) bytes)
    × (body_behind limits left (wish_tag 5 want) bytes ≡ oinv_at limits (has_wish want) bytes)
    × (body_behind limits left (wish_tag 6 want) bytes ≡ oack_at limits (has_wish want) bytes)
unfolding body_behind wish_tag has_wish
wish_tagged limits Own left bytes = (refl, refl, refl)
wish_tagged limits Read left bytes = (refl, refl, refl)
wish_tagged limits Leave left bytes = (refl, refl, refl)

-- what a letter says that was written is read again
pub body_again : (limits : Limits) (body : Body) (rest : List ℕ) → AreLimits limits → IsBody body → body_fits limits body ≡ true → body_at limits (body_bytes limits.version body ++ rest) ≡ Ok (body, rest)
unfolding body_at body_behind body_bytes body_fits rinv_at rack_at rval_at onack_at oval_at has_leaver may_own IsBody u8_at and_then
body_again limits (RInv r) rest are is fits = rw (inv_again limits r rest are is fits) refl
body_again limits (RAck s number) rest are is fits =
    rw (append_assoc (stream_bytes s) (u32_bytes number) rest, stream_again limits s (u32_bytes number ++ rest) fits, u32_again number rest is) refl
body_again limits (RVal s done) rest are is fits =
    rw (append_assoc (stream_bytes s) (u32_bytes done) rest, stream_again limits s (u32_bytes done ++ rest) fits, u32_again done rest is) refl
body_again limits (OReq x want) rest are is fits =
    (wish_tagged limits want _ _).0 ∙ oreq_again limits x want rest (omega (arith, are.objects)) fits
body_again limits (OInv x p) rest are is fits =
    let parts = both_true (object_fits limits x) (proposal_fits limits p) fits in
    (wish_tagged limits p.want _ _).1 ∙ oinv_again limits x p rest (omega (arith, are.objects)) parts.0 is parts.1
body_again limits (OAck x p content) rest are is fits =
    let parts = both_true (object_fits limits x && proposal_fits limits p) (content_fits limits content) fits in
    let first = both_true (object_fits limits x) (proposal_fits limits p) parts.0 in
    (wish_tagged limits p.want _ _).2 ∙ oack_again limits x p content rest (omega (arith, are.objects)) first.0 is.0 first.1 is.1 parts.1
body_again limits (ONack x stamp cause) rest are is fits =
    let parts = both_true (object_fits limits x && stamp_fits limits stamp) (cause_fits limits cause) fits in
    let first = both_true (object_fits limits x) (stamp_fits limits stamp) parts.0 in
    let regrouped : (u16_bytes x ++ (stamp_bytes stamp ++ cause_bytes cause)) ++ rest ≡ u16_bytes x ++ (stamp_bytes stamp ++ (cause_bytes cause ++ rest)) = simp append_assoc in
    rw (regrouped, object_again limits x (stamp_bytes stamp ++ (cause_bytes cause ++ rest)) (omega (arith, are.objects)) first.0, stamp_again limits stamp (cause_bytes cause ++ rest) is.0 first.1, cause_again limits cause rest is.1 parts.1) refl
body_again limits (OVal x stamp place) rest are is fits =
    let parts = both_true (object_fits limits x && stamp_fits limits stamp) (place_fits limits place) fits in
    let first = both_true (object_fits limits x) (stamp_fits limits stamp) parts.0 in
    let regrouped : (u16_bytes x ++ (stamp_bytes stamp ++ place_bytes place)) ++ rest ≡ u16_bytes x ++ (stamp_bytes stamp ++ (place_bytes place ++ rest)) = simp append_assoc in
    rw (regrouped, object_again limits x (stamp_bytes stamp ++ (place_bytes place ++ rest)) (omega (arith, are.objects)) first.0, stamp_again limits stamp (place_bytes place ++ rest) is.0 first.1, place_again limits None place rest is.1 parts.1 refl refl) refl
body_again limits Recovered rest are is fits = refl
