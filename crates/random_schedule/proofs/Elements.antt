-- What holds of the elements of the lists that a word chooses from.
use Rattle.std.proofs.Common.{ℕ, zero, suc, ◌≡◌, ◌<◌, ◌≤◌, ◌+◌, ◌-◌, ◌%◌, ◌^◌, Bool, true, false, List, [], ◌∷◌, ◌++◌, Option, Some, None, length, get_or, All, arith, refl, ap, sym, subst, ◌∙◌}
use Rattle.std.specs.Prelude.{map, filter, filter_map, slice_get, nat_lt, ◌&&◌, IfSome, IsTrue, if◌then◌else◌}
use Rattle.std.proofs.lemmas.Bool.{and_parts, cond_both, ltb-true}
use Rattle.std.proofs.lemmas.List.{append-nil}
use Rattle.std.proofs.lemmas.List.Elements.{All-nil, All-cons, All-head, All-tail, All-append, All-push, All-map, All-filter, All-weaker, filter_passes}
use Rattle.std.proofs.lemmas.Option.{slice_get_within, slice_get-get_or}
use Rattle.zeus_base.specs.declared.config.Config.{Config}
use Rattle.zeus_base.specs.declared.order.Stream.{Stream}
use Rattle.zeus_model.specs.Tables.{below, numbers_from}
use Rattle.zeus_model.specs.Readers.{is_live}
use Rattle.zeus_model.specs.World.{World}
use Rattle.random_schedule.specs.Choices.{chosen, pairs, stream, streams, count_sent, can_repeat}
use Rattle.random_schedule.specs.Lists.{if_passes}
use Rattle.random_schedule.specs.Ready.{IsSlot, IsLink, AreSlots, AreLinks}
use Rattle.random_schedule.specs.Schedule.{first_packet, same_link, behind, used_at}
use Rattle.random_schedule.specs.declared.fresh.FreshPacket.{FreshPacket}

-- an element that is read
pub got : {A : Type 0} (xs : List A) (i : ℕ) (x : A) → i < length xs → x ≡ get_or xs i x → slice_get xs i ≡ Some x
got xs i x h here = slice_get-get_or xs i x h ∙ ap Some (sym here)

-- what holds of each element holds of the one that is read at an index within the list
pub all_at : {A : Type 0} (P : A → Type 0) (xs : List A) (i : ℕ) (x : A) → All P xs → i < length xs → x ≡ get_or xs i x → P x
all_at P xs i x all h here = subst P (sym here) (all i x h)

-- what holds of each element holds of the one that a look by index gives
pub all_got : {A : Type 0} (P : A → Type 0) (xs : List A) (i : ℕ) (x : A) → All P xs → slice_get xs i ≡ Some x → P x
all_got P xs i x all is =
    let within = slice_get_within xs i x is in
    let read = slice_get-get_or xs i x within in
    let same : get_or xs i x ≡ x = cc (read, is) in
    subst P same (all i x within)

-- if each element has a property, and so has one that is added where it passes a test, then each has it afterwards
pub push_if_all : {A : Type 0} (P : A → Type 0) (xs : List A) (test : Bool) (x : A) → All P xs → (IsTrue test → P x) → All P (xs ++ if_passes test x)
push_if_all P xs true x all h = All-push P xs x all (h refl)
push_if_all P xs false x all h = subst (λ l. All P l) (sym (append-nil xs)) all

-- ---- slots and links

row_all : {A : Type 0} (P : A → Type 0) (f : ℕ → A) (k n bound : ℕ) → k + n ≤ bound → ((i : ℕ) → i < bound → P (f i)) → All P (map f (numbers_from k n))
unfolding numbers_from
row_all P f k zero bound h each = All-nil P
row_all P f k (suc n) bound h each = All-cons P (f k) (map f (numbers_from (suc k) n)) (each k (omega arith)) (row_all P f (suc k) n bound (omega arith) each)

rows_all : {A : Type 0} (P : A → Type 0) (f : ℕ → ℕ → A) (k n b c : ℕ) → k + n ≤ b → ((i j : ℕ) → i < b → j < c → P (f i j)) → All P (pairs f (numbers_from k n) (below c))
unfolding numbers_from pairs
rows_all P f k zero b c h each = All-nil P
rows_all P f k (suc n) b c h each =
    All-append P (map (f k) (below c)) (pairs f (numbers_from (suc k) n) (below c))
    (row_all P (f k) 0 c c (omega arith) (λ j less. each k j (omega arith) less))
    (rows_all P f (suc k) n b c (omega arith) each)

-- all slots of a configuration are slots of it
pub streams_slots : (c : Config) → AreSlots c (streams c)
streams_slots c = rows_all (IsSlot c) stream 0 c.nodes c.nodes c.slots (omega arith) (λ i j h g. record { node = h; slot = g })

-- the packets that a schedule begins with are of links of the configuration
pub start_links : (c : Config) → AreLinks c (pairs first_packet (below c.nodes) (below c.nodes))
start_links c = rows_all (IsLink c) first_packet 0 c.nodes c.nodes c.nodes (omega arith) (λ i j h g. record { from = h; to = g })

-- a link stays when a packet of one is used
behind_link : (c : Config) (p q : FreshPacket) → IsLink c p → IsLink c q → IsLink c (behind p q)
unfolding behind
behind_link c p q h g = cond_both (same_link p q) (record p { number = p.number + 1 }) q (IsLink c) (λ _. record { from = h.from; to = h.to }) (λ _. g)

-- if all links are of the configuration, then so they are once a packet of one is used
pub used_links : (c : Config) (p : FreshPacket) (links : List FreshPacket) → IsLink c p → AreLinks c links → AreLinks c (map (behind p) links)
used_links c p links h all = All-map (IsLink c) (behind p) links (All-weaker (IsLink c) (λ q. IsLink c (behind p q)) (λ q g. behind_link c p q h g) links all)

-- ---- chosen elements

if_got : {A : Type 0} (P : A → Type 0) (xs : List A) (i : ℕ) (o : Option A) → slice_get xs i ≡ o → All P xs → IfSome o P
if_got P xs i None is all = tt
if_got P xs i (Some x) is all = all_got P xs i x all is

-- what holds of each element holds of the chosen one
pub chosen_all : {A : Type 0} (P : A → Type 0) (u : ℕ) (xs : List A) → All P xs → IfSome (chosen u xs) P
chosen_all P u xs all = if_got P xs (u % length xs) (chosen u xs) refl all

-- a slot that is chosen among some of the configuration's is one of the configuration
pub trying_slots : (c : Config) (p : Stream → Bool) (u : ℕ) (slots : List Stream) → slots ≡ streams c → IfSome (chosen u (filter p slots)) (IsSlot c)
trying_slots c p u slots is =
    let all : AreSlots c slots = rw is (streams_slots c) in
    chosen_all (IsSlot c) u (filter p slots) (All-filter p (IsSlot c) slots all)

-- a link that is chosen among some of the configuration's is one of the configuration
pub chosen_links : (c : Config) (p : FreshPacket → Bool) (u : ℕ) (links : List FreshPacket) → AreLinks c links → IfSome (chosen u (filter p links)) (IsLink c)
chosen_links c p u links all = chosen_all (IsLink c) u (filter p links) (All-filter p (IsLink c) links all)

-- on a link that can bring a packet again one was sent
pub chosen_some : (w : World) (u : ℕ) (links : List FreshPacket) → IfSome (chosen u (filter (can_repeat w) links)) (λ p. 0 < count_sent w p)
unfolding can_repeat
chosen_some w u links =
    chosen_all (λ p. 0 < count_sent w p) u (filter (can_repeat w) links)
    (All-weaker (λ p. can_repeat w p ≡ true) (λ p. 0 < count_sent w p)
    (λ p h. ltb-true 0 (count_sent w p) (and_parts (is_live w p.to) (nat_lt 0 (count_sent w p)) h).1)
    (filter (can_repeat w) links) (filter_passes (can_repeat w) links))

-- if all links are of the configuration, then so they are once the chosen packet, if any, is used
pub used_at_links : (c : Config) (links : List FreshPacket) (o : Option FreshPacket) → IfSome o (IsLink c) → AreLinks c links → AreLinks c (used_at links o)
unfolding used_at
used_at_links c links None h all = all
used_at_links c links (Some p) h all = used_links c p links h all
