-- What follows from what holds at one moment: who is named where, when an object is clean, and what copies are then.
use Rattle.std.specs.Prelude.{ℕ, zero, suc, ◌≡◌, ◌≢◌, ◌==◌, ◌+◌, ◌-◌, ◌<◌, ◌≤◌, Bool, true, false, List, [], ◌∷◌, map, length, Option, Some, None}
use Rattle.std.proofs.Common.{arith, refl, sym, ap, subst, ◌∙◌, inl, inr}
use Rattle.std.proofs.lemmas.Bool.{cases_Bool, cases_lt, true≢false}
use Rattle.std.proofs.lemmas.Bool.Decides.{nat_tests}
use Rattle.std.proofs.lemmas.List.{length-map}
use Rattle.zeus_base.specs.Nodes.{has, is_subset}
use Rattle.zeus_base.specs.declared.order.Stream.{Stream}
use Rattle.zeus_base.specs.TableLaws.{nth-past}
use Rattle.zeus_packet.specs.Place.{source}
use Rattle.zeus_packet.specs.declared.letter.State.TheVariants.{Valid}
use Rattle.zeus_packet.specs.declared.place.Place.{Place}
use Rattle.zeus_packet.specs.declared.write.Content.{Content}
use Rattle.zeus_packet.specs.declared.write.Write.{Write}
use Rattle.zeus_txn.specs.Ops.{mentions, named}
use Rattle.zeus_txn.specs.Run.{run}
use Rattle.zeus_model.specs.In.{In}
use Rattle.zeus_model.specs.Tables.{nth, or_else, where_true, first_of, numbers_from}
use Rattle.zeus_model.specs.State.{Node, no_slot, copy, slot, holder, pending_names, is_open}
use Rattle.zeus_model.specs.Commit.{as_kept, no_kept, no_pending}
use Rattle.zeus_model.specs.Ownership.{is_node, is_source, unready_cause, missing_cause, held_cause}
use Rattle.zeus_model.specs.declared.state.Copy.{Copy}
use Rattle.zeus_model.specs.declared.state.Pending.{Pending}
use Rattle.machine_moves.specs.SystemState.{SystemState, IsLive, IsNumbered}
use Rattle.machine_moves.specs.Move.{own_kept}
use Rattle.machine_moves.proofs.Causes.{or_else-none}
use Rattle.machine_moves.proofs.Steady.{IsNumbered-steady}
use Rattle.ownership_safety.proofs.Arbiters.{source-owner}
use Rattle.replication_safety.specs.StreamState.{Has, IsAlive, end, entry, entry_of, kept_at, Entry}
use Rattle.replication_safety.specs.ReplicationInvariant.{ReplicationInvariant}
use Rattle.replication_safety.proofs.Consequences.{content-agrees, kept-alive, open-reported, replay-over}
use Rattle.invariants.specs.Streams.{stream_state}
use Rattle.invariants.proofs.StreamFrames.{stream-home, stream-stopped}
use Rattle.invariants.proofs.StreamSeen.{own_done_is, own_kept_is, stream_cases}
use Rattle.invariants.proofs.ObjectSeen.{same_or_not}
use Rattle.data_safety.specs.RunState.{RunState, Witness, tx_ops, place_now, pending_at, Lives}
use Rattle.data_safety.specs.DataInvariant.{DataInvariant, IsClean, IsNewer, IsRun, left, content_of, raised, found_at}
use Rattle.data_safety.proofs.commits.Names.{run-named, raised-from}

-- ---- the entries that a stream's own node keeps

-- to read a list of pending entries as stored ones is to read it and then turn what was read
pub nth-kept : (ps : List Pending) (i : ℕ) → nth no_kept (map as_kept ps) i ≡ as_kept (nth no_pending ps i)
unfolding nth
nth-kept [] i = refl
nth-kept (p ∷ ps) zero = refl
nth-kept (p ∷ ps) (suc i) = nth-kept ps i

-- at its home the count of a stream is that of its slot
pub home-done : (s : SystemState) (t : Stream) → (stream_state s t).done (stream_state s t).home ≡ (slot (s.node t.node) t.slot).done
home-done s t = rw (stream-home s t) (own_done_is s t t.node refl)

-- at its home the entries of a stream are those that its slot has pending
pub home-kept : (s : SystemState) (t : Stream) → (stream_state s t).kept (stream_state s t).home ≡ own_kept (s.node t.node) t.slot
home-kept s t = rw (stream-home s t) (own_kept_is s t t.node refl)

-- a slot's own stream has as many entries as the slot has pending
pub own-length : (n : Node) (s : ℕ) → length (own_kept n s) ≡ length (slot n s).pending
unfolding own_kept
own-length n s = length-map (slot n s).pending as_kept

-- how many entries a stream has
pub home-end : (s : SystemState) (t : Stream) → end (stream_state s t) ≡ (slot (s.node t.node) t.slot).done + length (slot (s.node t.node) t.slot).pending
home-end s t = rw (home-done s t, home-kept s t) (ap (λ (k : ℕ). (slot (s.node t.node) t.slot).done + k) (own-length (s.node t.node) t.slot))

-- an entry of a stream is that of its own node
pub home-entry : (y : RunState) (t : Stream) (k : ℕ) → entry (stream_state y.system t) k ≡ entry_of (as_kept (pending_at y t k))
unfolding own_kept
home-entry y t k =
    rw (home-done y.system t, home-kept y.system t) (ap entry_of (nth-kept (slot (y.system.node t.node) t.slot).pending (k - (slot (y.system.node t.node) t.slot).done)))

-- ---- slots that hold an object

names-found : (x : ℕ) (ps : List Pending) (i : ℕ) → i < length ps → mentions x (nth no_pending ps i).named ≡ true → pending_names x ps ≡ true
unfolding pending_names nth
names-found x [] i h m = absurd (omega (arith, h))
names-found x (p ∷ ps) zero h m = rw m refl
names-found x (p ∷ ps) (suc i) h m = elim (cases_Bool (mentions x p.named)) [
  | inl here_now ↦ rw here_now refl
  | inr later ↦ rw later (names-found x ps i (omega (arith, h)) m)
]

first-none : (f : ℕ → Bool) (i n s : ℕ) → first_of (λ (k : ℕ). where_true (f k) k) (numbers_from i n) ≡ None → i ≤ s → s < i + n → f s ≡ false
unfolding first_of numbers_from where_true or_else
first-none f i zero s h low high = absurd (omega (arith, low, high))
first-none f i (suc n) s h low high = elim (cases_Bool (f i)) [
  | inl found ↦ let none : ◌≡◌ {A = Option ℕ} (Some i) None = rw found at h in absurd cc
  | inr not_found ↦ elim (same_or_not i s) [
    | inl same ↦ rw (← same) not_found
    | inr other ↦
        let rest : first_of (λ (k : ℕ). where_true (f k) k) (numbers_from (suc i) n) ≡ None = rw not_found at h in
        first-none f (suc i) n s rest (omega (arith, low, other)) (omega (arith, high))
  ]
]

-- where no slot holds the object, no pending entry names it
pub unheld : (n : Node) (x : ℕ) → holder n x ≡ None → (s i : ℕ) → i < length (slot n s).pending → mentions x (nth no_pending (slot n s).pending i).named ≡ true → ⊥
unfolding holder
unheld n x h s i inside m =
    let there_is : pending_names x (slot n s).pending ≡ true = names-found x (slot n s).pending i inside m in
    elim (cases_lt s (length n.slots)) [
      | inl known ↦
          let no : pending_names x (slot n s).pending ≡ false = first-none (λ k. pending_names x (slot n k).pending) 0 (length n.slots) s h (omega arith) (omega (arith, known)) in
          true≢false (sym there_is ∙ no)
      | inr past ↦
          let none : length (slot n s).pending ≡ 0 = rw (nth-past no_slot n.slots s past) refl in
          omega (arith, none, inside)
    ]

held_cause-none : (o : Option ℕ) → held_cause o ≡ None → o ≡ None
unfolding held_cause
held_cause-none None h = refl
held_cause-none (Some s) h = absurd cc

missing_cause-none : (o : Option Copy) → missing_cause o ≡ None → (c : Copy) × (o ≡ Some c)
unfolding missing_cause
missing_cause-none None h = absurd cc
missing_cause-none (Some c) h = (c, refl)

-- what a source needs: a copy, and no slot that holds the object
pub unready-none : (n : Node) (x : ℕ) → unready_cause n x ≡ None → ((c : Copy) × (copy n x ≡ Some c)) × (holder n x ≡ None)
unfolding unready_cause
unready-none n x h =
    let first = or_else-none _ _ h in
    let second = or_else-none _ _ first.1 in
    (missing_cause-none (copy n x) first.0, held_cause-none (holder n x) second.0)

eq_from : (a b : ℕ) → (a == b) ≡ true → a ≡ b
eq_from a b h = grind (arith, nat_tests)

node-some : (o : Option ℕ) (m : ℕ) → is_node o m ≡ true → o ≡ Some m
unfolding is_node
node-some None m h = absurd cc
node-some (Some k) m h = ap (λ (j : ℕ). Some j) (eq_from k m h)

-- if a node is the source of a placement, then the source is there and is this node
pub is_source-some : (n : Node) (place : Place) → is_source n place ≡ true → source place n.members ≡ Some n.me
is_source-some n place h = node-some (source place n.members) n.me h

module _ (y : RunState) (u : Witness) (f : DataInvariant y u) where
  -- in a run where the invariant holds, live nodes are numbered
  pub numbered : IsNumbered y.system
  numbered = IsNumbered-steady y.system f.steady

  -- an entry that can still pass is pending
  pub lives-pending : (t : Stream) (k : ℕ) → Lives y u t k
      → ((slot (y.system.node t.node) t.slot).done ≤ k) × (k - (slot (y.system.node t.node) t.slot).done < length (slot (y.system.node t.node) t.slot).pending)
  unfolding IsAlive
  lives-pending t k alive =
      let r = f.replication t in
      let low : (stream_state y.system t).done (stream_state y.system t).home ≤ u.passed t = r.most (stream_state y.system t).home in
      let d = home-done y.system t in
      let e = home-end y.system t in
      (omega (arith, low, d, alive.0), omega (arith, low, d, e, alive.0, alive.1))

  -- it is that of its transaction
  pub lives-named : (t : Stream) (k : ℕ) → Lives y u t k → (pending_at y t k).named ≡ named (tx_ops y (pending_at y t k).id)
  lives-named t k alive = (f.booked.pending t (k - (slot (y.system.node t.node) t.slot).done) (lives-pending t k alive).1).2

  -- what it writes, it names
  pub written-named : (t : Stream) (k : ℕ) (w : Write) → Lives y u t k → In w (pending_at y t k).writes → mentions w.obj (pending_at y t k).named ≡ true
  written-named t k w alive i =
      let is : IsRun y u t k = f.entered.serial t k alive in
      let found : ℕ → Content = found_at y u t k in
      let ops = tx_ops y (pending_at y t k).id in
      let m : In w (raised found (run (λ x. (found x).value) ops).writes) = rw is.writes i in
      rw (lives-named t k alive) (run-named (λ x. (found x).value) ops (w.obj, w.value) (raised-from found (run (λ x. (found x).value) ops).writes w m).0)

  -- entries of two streams that can still pass name no object in common
  pub disjoint : (t r : Stream) (k j x : ℕ) → t ≢ r → Lives y u t k → Lives y u r j
      → mentions x (pending_at y t k).named ≡ true → mentions x (pending_at y r j).named ≡ true → ⊥
  disjoint t r k j x ne one two m l =
      let same : t.node ≡ r.node = f.entered.owner t k x one m ∙ sym (f.entered.owner r j x two l) in
      let other : t.slot ≢ r.slot = λ slots. ne (stream_eq t r same slots) in
      let two_in : j - (slot (y.system.node t.node) r.slot).done < length (slot (y.system.node t.node) r.slot).pending = rw same (lives-pending r j two).1 in
      let two_named : mentions x (nth no_pending (slot (y.system.node t.node) r.slot).pending (j - (slot (y.system.node t.node) r.slot).done)).named ≡ true = rw same l in
      f.entered.apart t.node t.slot r.slot (k - (slot (y.system.node t.node) t.slot).done) (j - (slot (y.system.node t.node) r.slot).done) x other
      (lives-pending t k one).1 two_in m two_named
    where
      stream_of : ℕ → ℕ → Stream
      stream_of k l = record { node = k; slot = l }

      stream_eq : (s t : Stream) → s.node ≡ t.node → s.slot ≡ t.slot → s ≡ t
      stream_eq s t a b = ap (λ (k : ℕ). stream_of k s.slot) a ∙ ap (λ (k : ℕ). stream_of t.node k) b

  -- ---- what a live node keeps

  -- an entry that has not passed, and that a live node has, can still pass
  pub kept-lives : (t : Stream) (n k : ℕ) → IsLive y.system n → Has (stream_state y.system t) n k → u.passed t ≤ k → Lives y u t k
  kept-lives t n k live h above = kept-alive (stream_state y.system t) (u.passed t) n k (f.replication t) (stream-stopped y.system t n ∙ live) h above

  -- an unpassed entry that a node has is the one that its home has pending
  pub kept-entry : (t : Stream) (n k : ℕ) → Has (stream_state y.system t) n k → u.passed t ≤ k → entry_of (kept_at (stream_state y.system t) n k) ≡ entry_of (as_kept (pending_at y t k))
  kept-entry t n k h above = content-agrees (stream_state y.system t) (u.passed t) n k (f.replication t) h above ∙ home-entry y t k

  -- an unpassed entry that a node has writes what the one that its home has pending writes
  pub kept-writes : (t : Stream) (n k : ℕ) → Has (stream_state y.system t) n k → u.passed t ≤ k → (kept_at (stream_state y.system t) n k).writes ≡ (pending_at y t k).writes
  kept-writes t n k h above = ap (λ (e : Entry). e.writes) (kept-entry t n k h above)

  -- ---- when an object is clean

  -- no pending entry of the owner of the latest placement names it
  pub clean-owner : (x : ℕ) → ((s i : ℕ) → i < length (slot (y.system.node (place_now y u x).owner) s).pending
      → mentions x (nth no_pending (slot (y.system.node (place_now y u x).owner) s).pending i).named ≡ true → ⊥) → IsClean y u x
  unfolding IsClean
  clean-owner x none t k alive m =
      let own : t.node ≡ (place_now y u x).owner = f.entered.owner t k x alive m in
      none t.slot (k - (slot (y.system.node (place_now y u x).owner) t.slot).done) (rw own at (lives-pending t k alive).1) (rw own at m)

  all_reported : (t : Stream) (k n : ℕ) → IsLive y.system n → is_open (y.system.node n) ≡ true
      → has t.node (y.system.node n).members ≡ false → (y.system.node n).epoch ≢ 1 → Lives y u t k → ⊥
  unfolding stream_state is_open
  all_reported t k n live opened gone later alive =
      let r : ReplicationInvariant (stream_state y.system t) (u.passed t) = f.replication t in
      let known = f.steady.nodes n live in
      let two : 2 ≤ (y.system.node n).epoch = omega (arith, known.first, later) in
      let sub : is_subset (nth [] y.system.views ((y.system.node n).epoch - 1)) (y.system.node n).reported ≡ true = rw (← known.members) opened in
      let out : has t.node (nth [] y.system.views ((y.system.node n).epoch - 1)) ≡ false = rw (← known.members) gone in
      replay-over (stream_state y.system t) (u.passed t) (y.system.node n).epoch k r (known.first, known.made) out
      (λ m member. open-reported (stream_state y.system t) (u.passed t) n m r live two sub member) alive

  -- an open live node is in a view without that owner
  pub clean-open : (n x : ℕ) → IsLive y.system n → is_open (y.system.node n) ≡ true → has (place_now y u x).owner (y.system.node n).members ≡ false → IsClean y u x
  unfolding IsClean
  clean-open n x live opened out t k alive m =
      let own : t.node ≡ (place_now y u x).owner = f.entered.owner t k x alive m in
      let known = f.steady.nodes n live in
      let gone : has t.node (y.system.node n).members ≡ false = rw own out in
      let later : (y.system.node n).epoch ≢ 1 = λ one.
      let first : has t.node (nth [] y.system.views ((y.system.node n).epoch - 1)) ≡ true =
      rw one (f.entered.home t (k - (slot (y.system.node t.node) t.slot).done) (lives-pending t k alive).1) in
      true≢false (sym first ∙ sym (ap (λ (ms : List ℕ). has t.node ms) known.members) ∙ gone)
      in
      all_reported t k n live opened gone later alive

  -- ---- copies

  -- a copy of a clean object is what the history leaves
  pub clean-copy : (n x : ℕ) (c : Copy) → x < length y.system.config.objects → IsLive y.system n → IsClean y u x → copy (y.system.node n) x ≡ Some c → content_of c ≡ left y x
  unfolding IsClean
  clean-copy n x c within live clean is =
      elim (f.copied.content n x c within live is) [
        | inl same ↦ same
        | inr newer ↦
            let w = newer.written in
            let alive : Lives y u w.0 w.1 = kept-lives w.0 n w.1 live w.3 w.2 in
            let i : In record { obj = x; ver = c.ver; value = c.value } (pending_at y w.0 w.1).writes = rw (← kept-writes w.0 n w.1 w.3 w.2) w.4 in
            absurd (clean w.0 w.1 alive (written-named w.0 w.1 record { obj = x; ver = c.ver; value = c.value } alive i))
      ]

  -- a valid copy is what the history leaves
  pub read-valid : (n x : ℕ) (c : Copy) → x < length y.system.config.objects → IsLive y.system n → copy (y.system.node n) x ≡ Some c → c.state ≡ Valid → content_of c ≡ left y x
  read-valid n x c within live is valid =
      elim (f.copied.content n x c within live is) [ inl same ↦ same | inr newer ↦ absurd (newer.not_valid valid) ]

  -- an open source of the latest placement, none of whose slots holds the object, has a clean object
  pub source-clean : (n x : ℕ) → IsLive y.system n → is_open (y.system.node n) ≡ true → is_source (y.system.node n) (place_now y u x) ≡ true
      → holder (y.system.node n) x ≡ None → IsClean y u x
  source-clean n x live opened is free =
      elim (cases_Bool (has (place_now y u x).owner (y.system.node n).members)) [
        | inr out ↦ clean-open n x live opened out
        | inl member ↦
            let own : ◌≡◌ {A = Option ℕ} (Some (place_now y u x).owner) (Some (y.system.node n).me) =
            sym (source-owner (place_now y u x) (y.system.node n).members member) ∙ is_source-some (y.system.node n) (place_now y u x) is in
            let same : (place_now y u x).owner ≡ n = some_same _ _ own ∙ numbered.me n live in
            clean-owner x (λ s i inside m. unheld (y.system.node n) x free s i (rw same at inside) (rw same at m))
      ]
    where
      some_same : (a b : ℕ) → ◌≡◌ {A = Option ℕ} (Some a) (Some b) → a ≡ b
      some_same a b e = cc

  -- so what it gives is what the history leaves
  pub source-content : (n x : ℕ) (c : Copy) → x < length y.system.config.objects → IsLive y.system n → is_open (y.system.node n) ≡ true → is_source (y.system.node n) (place_now y u x) ≡ true
      → unready_cause (y.system.node n) x ≡ None → copy (y.system.node n) x ≡ Some c → IsClean y u x × (content_of c ≡ left y x)
  source-content n x c within live opened is ready has_copy =
      let clean : IsClean y u x = source-clean n x live opened is (unready-none (y.system.node n) x ready).1 in
      (clean, clean-copy n x c within live clean has_copy)

  -- ---- newer copies

  -- where an entry of a stream that can still pass names the object, a newer copy was written by that stream
  pub witness-same_stream : (n x k : ℕ) (t : Stream) (c : Copy) → IsLive y.system n → IsNewer y u n x c → Lives y u t k → mentions x (pending_at y t k).named ≡ true
      → (j : ℕ) × (u.passed t ≤ j) × Has (stream_state y.system t) n j × In record { obj = x; ver = c.ver; value = c.value } (kept_at (stream_state y.system t) n j).writes
  witness-same_stream n x k t c live newer alive m =
      let w = newer.written in
      elim (stream_cases w.0 t) [
        | inl same ↦ subst (λ (s : Stream). (j : ℕ) × (u.passed s ≤ j) × Has (stream_state y.system s) n j × In record { obj = x; ver = c.ver; value = c.value } (kept_at (stream_state y.system s) n j).writes) same (w.1, w.2, w.3, w.4)
        | inr other ↦
            let there_lives : Lives y u w.0 w.1 = kept-lives w.0 n w.1 live w.3 w.2 in
            let i : In record { obj = x; ver = c.ver; value = c.value } (pending_at y w.0 w.1).writes = rw (← kept-writes w.0 n w.1 w.3 w.2) w.4 in
            absurd (disjoint w.0 t w.1 k x other there_lives alive (written-named w.0 w.1 record { obj = x; ver = c.ver; value = c.value } there_lives i) m)
      ]
