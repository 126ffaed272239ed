-- The letters of replication: an entry, an acknowledgement of one, and the word that entries have passed.
use Rattle.std.specs.Prelude.{ℕ, ◌≡◌, ◌≢◌, ◌+◌, ◌-◌, ◌<◌, ◌≤◌, true, ◌&&◌, not, ◌==◌, nat_lt, List, [], ◌∷◌, ◌++◌, length, take, drop, if◌then◌else◌}
use Rattle.std.proofs.Common.{arith, refl, sym, ap, ◌∙◌, inl, inr, subst, length-append}
use Rattle.std.proofs.lemmas.Bool.{cases_lt, cond_both, and_parts, not-true, ltb-true, ltb-false, eqb-true, eqb-false, le-ltb}
use Rattle.zeus_base.specs.Nodes.{has}
use Rattle.zeus_base.specs.declared.order.Stream.{Stream}
use Rattle.zeus_packet.specs.declared.letter.Body.{Body}
use Rattle.zeus_packet.specs.declared.letter.Body.TheVariants.{RInv, RAck, RVal}
use Rattle.zeus_packet.specs.declared.letter.Cause.TheVariants.{OwnStream, Window}
use Rattle.zeus_packet.specs.declared.letter.Letter.{Letter}
use Rattle.zeus_packet.specs.declared.letter.RInv.{RInv as Invalidation}
use Rattle.zeus_model.specs.In.{In, here, there}
use Rattle.zeus_model.specs.Tables.{nth, put}
use Rattle.zeus_model.specs.declared.answer.Outcome.{Outcome}
use Rattle.zeus_model.specs.declared.answer.Outcome.TheVariants.{Taken, Again, Gap, Refused}
use Rattle.zeus_model.specs.declared.state.Kept.{Kept}
use Rattle.zeus_model.specs.State.{Node, StreamLog, slot, log, with_slot, with_log, with_copies}
use Rattle.zeus_model.specs.Act.{Did, just, sends, letter}
use Rattle.zeus_model.specs.Commit.{after_passing, raise, store, next_kept, stored_rinv, on_rinv, is_within, no_pending, no_kept, acked_pending, acked_kept, on_own_rack, on_kept_rack, on_rack, on_rval}
use Rattle.machine_moves.specs.SystemState.{SystemState, IsReceivable}
use Rattle.machine_moves.specs.Move.{stored, raises, stores, notes_own, notes_kept, IsRaising, by_entry, by_word, IsTellable}
use Rattle.machine_moves.specs.Plain.{IsPlain}
use Rattle.machine_moves.proofs.Within.{log-with_log_same, Keeps, Keeps-raise, Keeps-store, Keeps-with_slot, Keeps-with_log}
use Rattle.machine_moves.proofs.Reach.{Became, PlainReaches as Reaches, PlainAnswered as Answered, IsReady, known, still_reaches, plain_reaches, then_reaches, cut_none, cut_tells, quiet_then_tells}

-- a letter with this body from this node came to the node in its epoch
pub record Received (s : SystemState) (n from : ℕ) (body : Body) : Type 0 where
  pub letter : Letter
  pub is : letter.body ≡ body
  pub by : letter.from ≡ from
  pub at : IsReceivable s n letter

-- so it is still where the node has made moves
pub received_after : (s t : SystemState) (n from : ℕ) (body : Body) (m : Node) (sent : List Letter) → Received s n from body → Became s t n m sent → Keeps (s.node n) (t.node n) → Received t n from body
received_after s t n from body m sent r b k =
    record { letter = r.letter; is = r.is; by = r.by; at = (r.at.0, r.at.1 ∙ sym (k.epoch), b.stay r.letter r.at.2) }

-- ---- a raise

-- if a count is not above what has passed, then raising to it changes nothing
pub raise-none : (m : Node) (t : Stream) (d : ℕ) → d ≤ (log m t).done → raise m t d ≡ m
unfolding raise
raise-none m t d h = rw (le-ltb (log m t).done d h) refl

-- after a raise to a count, the count of what has passed is not below it
pub raise-done : (m : Node) (t : Stream) (d : ℕ) → d ≤ (log (raise m t d) t).done
unfolding raise
raise-done m t d =
    let done = (log m t).done in
    let x = after_passing m (take (d - done) (log m t).kept) in
    let l : StreamLog = record { done = d; kept = drop (d - done) (log m t).kept } in
    cond_both (nat_lt done d) (with_log x t l) m (λ y. d ≤ (log y t).done)
    (λ _. rw (log-with_log_same x t l) (omega arith))
    (λ h. ltb-false done d h)

raised : (s : SystemState) (n : ℕ) (t : Stream) (d : ℕ) (l : Letter) → IsReady s n → t.node ≢ n → IsReceivable s n l → IsRaising t d l → Reaches s n (raise (s.node n) t d) []
unfolding IsPlain
raised s n t d l ready foreign at says =
    elim (cases_lt (log (s.node n) t).done d) [
      | inl less ↦ plain_reaches s n (raise (s.node n) t d) ready.live (Keeps-raise (s.node n) t d) (λ ch. raises n d t l foreign at says less ch) (λ _. tt)
      | inr more ↦ rw (raise-none (s.node n) t d more) (still_reaches s n)
    ]

raising_entry : (l : Letter) (r : Invalidation) → l.body ≡ RInv r → IsRaising r.stream r.done l
raising_entry l r is =
    subst (λ (b : Body). IsRaising r.stream r.done record { from = l.from; to = l.to; epoch = l.epoch; body = b }) (sym is) (by_entry l.from l.to l.epoch r refl refl)

raising_word : (l : Letter) (t : Stream) (d : ℕ) → l.body ≡ RVal t d → IsRaising t d l
raising_word l t d is =
    subst (λ (b : Body). IsRaising t d record { from = l.from; to = l.to; epoch = l.epoch; body = b }) (sym is) (by_word l.from l.to l.epoch)

-- ---- an entry

store-next : (m : Node) (r : Invalidation) → r.number ≡ next_kept (log m r.stream) → r.number < next_kept (log (store m r) r.stream)
store-next m r h =
    let x = with_copies m (store m r).copies in
    let entry : Kept = record { followers = r.followers; writes = r.writes; acks = [] } in
    let l : StreamLog = record { done = (log m r.stream).done; kept = (log m r.stream).kept ++ entry ∷ [] } in
    rw (log-with_log_same x r.stream l) (omega (arith, h, length-append (log m r.stream).kept (entry ∷ [])))

-- the letter that an entry is stored
stored_letter : (m : Node) (to number : ℕ) (t : Stream) → t.node ≢ m.me → number < next_kept (log m t) → (l : Letter) → In l (letter m to (RAck t number) ∷ []) → IsTellable m l
stored_letter m to number t foreign less l (here _ _ e) = rw e (stored to number t foreign less)
stored_letter m to number t foreign less l (there _ _ i) = elim i [ ]

stores_entry : (s : SystemState) (n from k : ℕ) (r : Invalidation) → IsReady s n → Received s n from (RInv r) → r.stream.node ≢ n → r.done ≤ (log (s.node n) r.stream).done → r.number ≡ next_kept (log (s.node n) r.stream) → length (log (s.node n) r.stream).kept ≢ 16 → Reaches s n (store (s.node n) r) (take k (letter (s.node n) from (RAck r.stream r.number) ∷ []))
unfolding IsPlain
stores_entry s n from k r ready got foreign done number room =
    let m = s.node n in
    let me = known s n ready in
    let other : r.stream.node ≢ m.me = rw (me.me) foreign in
    quiet_then_tells s n k (store m r) (letter m from (RAck r.stream r.number) ∷ []) ready
    (plain_reaches s n (store m r) ready.live (Keeps-store m r) (λ ch. stores n r got.letter foreign got.at got.is done number room ch) (λ _. tt))
    (stored_letter (store m r) from r.number r.stream other (store-next m r number))

again_stored : (s : SystemState) (n from k : ℕ) (r : Invalidation) → IsReady s n → r.stream.node ≢ n → r.number < next_kept (log (s.node n) r.stream) → Reaches s n (s.node n) (take k (letter (s.node n) from (RAck r.stream r.number) ∷ []))
again_stored s n from k r ready foreign less =
    let m = s.node n in
    let me = known s n ready in
    cut_tells s n k (letter m from (RAck r.stream r.number) ∷ []) ready.live (stored_letter m from r.number r.stream (rw (me.me) foreign) less)

stored_rinv-answered : (s : SystemState) (n from k : ℕ) (r : Invalidation) → IsReady s n → Received s n from (RInv r) → r.stream.node ≢ n → r.done ≤ (log (s.node n) r.stream).done → Answered s n k (stored_rinv (s.node n) from r)
unfolding stored_rinv
stored_rinv-answered s n from k r ready got foreign done =
    let m = s.node n in
    let next = next_kept (log m r.stream) in
    let say : List Letter = letter m from (RAck r.stream r.number) ∷ [] in
    let window : Did Outcome = just m (Refused Window) in
    let store_it : Did Outcome = sends (store m r) Taken say in
    let room : Did Outcome = if length (log m r.stream).kept == 16 then window else store_it in
    let gap : Did Outcome = if nat_lt next r.number then just m (Gap next) else room in
    cond_both (nat_lt r.number next) (sends m Again say) gap (λ (d : Did Outcome). Answered s n k d)
    (λ less. again_stored s n from k r ready foreign (ltb-true r.number next less))
    (λ not_less. cond_both (nat_lt next r.number) (just m (Gap next)) room (λ (d : Did Outcome). Answered s n k d)
    (λ _. cut_none s n m k (still_reaches s n))
    (λ not_more. cond_both (length (log m r.stream).kept == 16) window store_it (λ (d : Did Outcome). Answered s n k d)
    (λ _. cut_none s n m k (still_reaches s n))
    (λ roomy. stores_entry s n from k r ready got foreign done (omega (arith, ltb-false r.number next not_less, ltb-false next r.number not_more)) (eqb-false (length (log m r.stream).kept) 16 roomy))))

-- if a ready node received an entry, then plain moves lead to what it does with it
pub on_rinv-answered : (s : SystemState) (n from k : ℕ) (r : Invalidation) → IsReady s n → Received s n from (RInv r) → Answered s n k (on_rinv (s.node n) from r)
unfolding on_rinv
on_rinv-answered s n from k r ready got =
    let m = s.node n in
    let me = known s n ready in
    let after = raise m r.stream r.done in
    cond_both (r.stream.node == m.me) (just m (Refused OwnStream)) (stored_rinv after from r) (λ (d : Did Outcome). Answered s n k d)
    (λ _. cut_none s n m k (still_reaches s n))
    (λ other.
    let foreign : r.stream.node ≢ n = rw (me.me) at (eqb-false r.stream.node m.me other) in
    let first = raised s n r.stream r.done got.letter ready foreign got.at (raising_entry got.letter r got.is) in
    then_reaches s n after _ [] _ ready first
    (λ t rt b.
    subst (λ (x : Node). r.done ≤ (log x r.stream).done → Answered t n k (stored_rinv x from r)) b.node
    (stored_rinv-answered t n from k r rt (received_after s t n from (RInv r) after [] got b (let keeps = first.keeps in rw (b.node) keeps)) foreign)
    (raise-done m r.stream r.done)))

-- ---- an acknowledgement

within-parts : (number done count : ℕ) → is_within number done count ≡ true → (number ≡ done + (number - done)) × (number - done < count)
unfolding is_within
within-parts number done count h =
    let parts = and_parts (not (nat_lt number done)) (nat_lt number (done + count)) h in
    let low : done ≤ number = ltb-false number done (not-true (nat_lt number done) parts.0) in
    let high : number < done + count = ltb-true number (done + count) parts.1 in
    (omega arith, omega arith)

on_own_rack-answered : (s : SystemState) (n from k i number : ℕ) → IsReady s n → Received s n from (RAck record { node = n; slot = i } number) → Answered s n k (on_own_rack (s.node n) from i number)
unfolding on_own_rack IsPlain
on_own_rack-answered s n from k i number ready got =
    let m = s.node n in
    let l = slot m i in
    let place = number - l.done in
    let after = with_slot m i record { current = l.current; done = l.done; pending = put no_pending l.pending place (acked_pending (nth no_pending l.pending place) from) } in
    let fresh = not (has from (nth no_pending l.pending place).acks) in
    cond_both (is_within number l.done (length l.pending) && fresh) (just after Taken) (just m Again) (λ (d : Did Outcome). Answered s n k d)
    (λ h.
    let within = within-parts number l.done (length l.pending) (and_parts (is_within number l.done (length l.pending)) fresh h).0 in
    cut_none s n after k
    (plain_reaches s n after ready.live (Keeps-with_slot m i _)
    (λ ch. notes_own n i place from got.letter got.at got.by (got.is ∙ ap (λ (j : ℕ). RAck record { node = n; slot = i } j) within.0) within.1 ch) (λ _. tt)))
    (λ _. cut_none s n m k (still_reaches s n))

on_kept_rack-answered : (s : SystemState) (n from k : ℕ) (t : Stream) (number : ℕ) → IsReady s n → t.node ≢ n → Received s n from (RAck t number) → Answered s n k (on_kept_rack (s.node n) from t number)
unfolding on_kept_rack IsPlain
on_kept_rack-answered s n from k t number ready foreign got =
    let m = s.node n in
    let l = log m t in
    let place = number - l.done in
    let after = with_log m t record { done = l.done; kept = put no_kept l.kept place (acked_kept (nth no_kept l.kept place) from) } in
    let fresh = not (has from (nth no_kept l.kept place).acks) in
    cond_both (is_within number l.done (length l.kept) && fresh) (just after Taken) (just m Again) (λ (d : Did Outcome). Answered s n k d)
    (λ h.
    let within = within-parts number l.done (length l.kept) (and_parts (is_within number l.done (length l.kept)) fresh h).0 in
    cut_none s n after k
    (plain_reaches s n after ready.live (Keeps-with_log m t _)
    (λ ch. notes_kept n place from t got.letter foreign got.at got.by (got.is ∙ ap (λ (j : ℕ). RAck t j) within.0) within.1 ch) (λ _. tt)))
    (λ _. cut_none s n m k (still_reaches s n))

received_as : (s : SystemState) (n from : ℕ) (a b : Body) → a ≡ b → Received s n from a → Received s n from b
received_as s n from a b same got = record { letter = got.letter; is = got.is ∙ same; by = got.by; at = got.at }

-- if a ready node received an acknowledgement of an entry, then plain moves lead to what it does with it
pub on_rack-answered : (s : SystemState) (n from k : ℕ) (t : Stream) (number : ℕ) → IsReady s n → Received s n from (RAck t number) → Answered s n k (on_rack (s.node n) from t number)
unfolding on_rack
on_rack-answered s n from k t number ready got =
    let m = s.node n in
    let me = known s n ready in
    cond_both (t.node == m.me) (on_own_rack m from t.slot number) (on_kept_rack m from t number) (λ (d : Did Outcome). Answered s n k d)
    (λ same.
    let own : t.node ≡ n = eqb-true t.node m.me same ∙ me.me in
    on_own_rack-answered s n from k t.slot number ready (received_as s n from (RAck t number) (RAck record { node = n; slot = t.slot } number) (λ j. RAck record { node = own j; slot = t.slot } number) got))
    (λ other. on_kept_rack-answered s n from k t number ready (rw (me.me) at (eqb-false t.node m.me other)) got)

-- ---- the word that entries have passed

-- if a ready node received the word that entries have passed, then plain moves lead to what it does with it
pub on_rval-answered : (s : SystemState) (n from k : ℕ) (t : Stream) (d : ℕ) → IsReady s n → Received s n from (RVal t d) → Answered s n k (on_rval (s.node n) t d)
unfolding on_rval
on_rval-answered s n from k t d ready got =
    let m = s.node n in
    let me = known s n ready in
    let higher : Did Outcome = if nat_lt (log m t).done d then just (raise m t d) Taken else just m Again in
    cond_both (t.node == m.me) (just m (Refused OwnStream)) higher (λ (x : Did Outcome). Answered s n k x)
    (λ _. cut_none s n m k (still_reaches s n))
    (λ other. cond_both (nat_lt (log m t).done d) (just (raise m t d) Taken) (just m Again) (λ (x : Did Outcome). Answered s n k x)
    (λ _. cut_none s n (raise m t d) k (raised s n t d got.letter ready (rw (me.me) at (eqb-false t.node m.me other)) got.at (raising_word got.letter t d got.is)))
    (λ _. cut_none s n m k (still_reaches s n)))
