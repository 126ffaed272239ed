-- The contents that the entries of a stream find: versions rise along a stream, and what an owner's copy is.
use Rattle.std.specs.Prelude.{◌&&◌, is_none, ℕ, zero, suc, ◌≡◌, ◌≢◌, ◌==◌, ◌+◌, ◌-◌, ◌<◌, ◌≤◌, Bool, true, false, List, [], ◌∷◌, length, Option, Some, None, is_some, ◌⊎◌}
use Rattle.std.proofs.Common.{arith, refl, sym, ap, subst, ◌∙◌, inl, inr, le_refl}
use Rattle.std.proofs.lemmas.Bool.{cases_Bool, eq-eqb}
use Rattle.std.proofs.lemmas.Bool.Decides.{nat_tests}
use Rattle.zeus_base.specs.declared.order.Stream.{Stream}
use Rattle.zeus_packet.specs.declared.write.Content.{Content}
use Rattle.zeus_packet.specs.declared.write.Write.{Write}
use Rattle.zeus_txn.specs.Ops.{mentions}
use Rattle.zeus_txn.specs.Run.{run}
use Rattle.zeus_model.specs.In.{In, here, there}
use Rattle.zeus_model.specs.Tables.{nth}
use Rattle.zeus_model.specs.State.{copy, entry, slot, owns}
use Rattle.zeus_model.specs.Commit.{no_pending}
use Rattle.zeus_model.specs.declared.state.Copy.{Copy}
use Rattle.zeus_model.specs.declared.state.Entry.{Entry}
use Rattle.zeus_packet.specs.declared.place.Place.{Place}
use Rattle.zeus_base.specs.Nodes.{has}
use Rattle.machine_moves.specs.SystemState.{IsLive}
use Rattle.replication_safety.specs.StreamState.{Has, IsAlive, end}
use Rattle.replication_safety.proofs.Consequences.{stored-down}
use Rattle.invariants.specs.Streams.{stream_state}
use Rattle.invariants.proofs.StreamFrames.{stream-home, stream-stopped}
use Rattle.invariants.proofs.ObjectSeen.{same_or_not}
use Rattle.data_safety.specs.RunState.{RunState, Witness, tx_ops, place_now, pending_at, Lives, running, overwritten}
use Rattle.data_safety.specs.DataInvariant.{DataInvariant, IsRun, left, content_of, raised, found_at}
use Rattle.data_safety.proofs.commits.Names.{IsOnce, raised-from, raised-once, run-once}
use Rattle.ownership_safety.specs.Object.{IsOwner}
use Rattle.ownership_safety.proofs.Chain.{latest-placed}
use Rattle.ownership_safety.proofs.Owner.{owner-latest}
use Rattle.invariants.specs.Objects.{object}
use Rattle.invariants.proofs.AboutObjects.{object-entry}
use Rattle.data_safety.proofs.Consequences.{lives-pending, kept-lives, kept-writes, written-named}

-- ---- writes over contents

and_parts : (a b : Bool) → (a && b) ≡ true → (a ≡ true) × (b ≡ true)
and_parts true b h = (refl, h)
and_parts false b h = absurd cc

eq_from : (a b : ℕ) → (a == b) ≡ true → a ≡ b
eq_from a b h = grind (arith, nat_tests)

-- the version and the value that a write gives
abbrev pub written_content : Write → Content
written_content w = record { ver = w.ver; value = w.value }

-- if no write is of the object, then it has the content that it had
pub overwritten-other : (found : ℕ → Content) (ws : List Write) (x : ℕ) → ((w : Write) → In w ws → w.obj ≢ x) → overwritten found ws x ≡ found x
unfolding overwritten
overwritten-other found [] x none = refl
overwritten-other found (w ∷ ws) x none = elim (cases_Bool (x == w.obj)) [
  | inl same ↦ absurd (none w (here w ws refl) (sym (eq_from x w.obj same)))
  | inr other ↦ rw other (overwritten-other found ws x (λ v i. none v (there w ws i)))
]

-- if no object is written twice, then the object of a write has what that write gives
pub overwritten-in : (found : ℕ → Content) (ws : List Write) (w : Write) → IsOnce ws → In w ws → overwritten found ws w.obj ≡ written_content w
unfolding overwritten IsOnce
overwritten-in found [] w once i = elim i [ ]
overwritten-in found (v ∷ vs) w once (here _ _ e) = rw (eq-eqb w.obj v.obj (ap (λ (k : Write). k.obj) e)) (ap written_content (sym e))
overwritten-in found (v ∷ vs) w once (there _ _ i) = elim (cases_Bool (w.obj == v.obj)) [
  | inl same ↦ absurd (once.0 w i (eq_from w.obj v.obj same))
  | inr other ↦ rw other (overwritten-in found vs w once.1 i)
]

-- an object is written, or it is not
pub writes-cases : (ws : List Write) (x : ℕ) → ((w : Write) × In w ws × (w.obj ≡ x)) ⊎ ((w : Write) → In w ws → w.obj ≢ x)
writes-cases [] x = inr (λ w i. elim i [ ])
writes-cases (v ∷ vs) x = elim (same_or_not v.obj x) [
  | inl same ↦ inl (v, here v vs refl, same)
  | inr other ↦ elim (writes-cases vs x) [
    | inl found ↦ inl (found.0, there v vs found.1, found.2)
    | inr none ↦ inr (not_first v vs x other none)
  ]
]
  where
    not_first : (v : Write) (vs : List Write) (x : ℕ) → v.obj ≢ x → ((w : Write) → In w vs → w.obj ≢ x) → (w : Write) → In w (v ∷ vs) → w.obj ≢ x
    not_first v vs x other none w (here _ _ e) = λ is. other (sym (ap (λ (k : Write). k.obj) e) ∙ is)
    not_first v vs x other none w (there _ _ i) = none w i

-- ---- what entries find

-- the first unpassed entry of a stream finds what the history leaves
pub found-start : (y : RunState) (u : Witness) (t : Stream) → found_at y u t (u.passed t) ≡ left y
unfolding found_at running
found-start y u t =
    let none : u.passed t - u.passed t ≡ 0 = omega arith in
    ap (λ (i : ℕ). running (left y) (λ j. (pending_at y t (u.passed t + j)).writes) i) none

-- the next entry of a stream finds what this one finds, with its writes on top
pub found-next : (y : RunState) (u : Witness) (t : Stream) (k : ℕ) → u.passed t ≤ k → found_at y u t (suc k) ≡ overwritten (found_at y u t k) (pending_at y t k).writes
unfolding found_at running
found-next y u t k above =
    let one : suc k - u.passed t ≡ suc (k - u.passed t) = omega (arith, above) in
    let same : u.passed t + (k - u.passed t) ≡ k = omega (arith, above) in
    ap (λ (i : ℕ). running (left y) (λ j. (pending_at y t (u.passed t + j)).writes) i) one
    ∙ ap (λ (i : ℕ). overwritten (running (left y) (λ j. (pending_at y t (u.passed t + j)).writes) (k - u.passed t)) (pending_at y t i).writes) same

module _ (y : RunState) (u : Witness) (f : DataInvariant y u) where
  -- a write of an entry that can still pass has the version one above what the entry finds
  pub write-version : (t : Stream) (k : ℕ) (w : Write) → Lives y u t k → In w (pending_at y t k).writes → w.ver ≡ (found_at y u t k w.obj).ver + 1
  write-version t k w alive i =
      let is : IsRun y u t k = f.entered.serial t k alive in
      let found : ℕ → Content = found_at y u t k in
      let m : In w (raised found (run (λ x. (found x).value) (tx_ops y (pending_at y t k).id)).writes) = rw is.writes i in
      (raised-from found (run (λ x. (found x).value) (tx_ops y (pending_at y t k).id)).writes w m).1

  -- an entry that can still pass writes no object twice
  pub writes-once : (t : Stream) (k : ℕ) → Lives y u t k → IsOnce (pending_at y t k).writes
  writes-once t k alive =
      let is : IsRun y u t k = f.entered.serial t k alive in
      let found : ℕ → Content = found_at y u t k in
      rw (← is.writes) (raised-once found (run (λ x. (found x).value) (tx_ops y (pending_at y t k).id)).writes (run-once (λ x. (found x).value) (tx_ops y (pending_at y t k).id)))

  -- an entry leaves what it writes
  pub found-written : (t : Stream) (k : ℕ) (w : Write) → u.passed t ≤ k → Lives y u t k → In w (pending_at y t k).writes → found_at y u t (suc k) w.obj ≡ written_content w
  found-written t k w above alive i =
      ap (λ (g : ℕ → Content). g w.obj) (found-next y u t k above) ∙ overwritten-in (found_at y u t k) (pending_at y t k).writes w (writes-once t k alive) i

  -- and else what it finds
  pub found-unwritten : (t : Stream) (k x : ℕ) → u.passed t ≤ k → ((w : Write) → In w (pending_at y t k).writes → w.obj ≢ x) → found_at y u t (suc k) x ≡ found_at y u t k x
  found-unwritten t k x above none =
      ap (λ (g : ℕ → Content). g x) (found-next y u t k above) ∙ overwritten-other (found_at y u t k) (pending_at y t k).writes x none

  found-step : (t : Stream) (k x : ℕ) → u.passed t ≤ k → Lives y u t k → (found_at y u t k x).ver ≤ (found_at y u t (suc k) x).ver
  found-step t k x above alive = elim (writes-cases (pending_at y t k).writes x) [
    | inl w ↦
        let now : found_at y u t (suc k) x ≡ written_content w.0 = rw (← w.2) (found-written t k w.0 above alive w.1) in
        let ver : w.0.ver ≡ (found_at y u t k x).ver + 1 = rw (← w.2) (write-version t k w.0 alive w.1) in
        rw now (omega (arith, ver))
    | inr none ↦ rw (found-unwritten t k x above none) (le_refl (found_at y u t k x).ver)
  ]

  -- versions do not fall along the entries of a stream that can still pass
  pub found-rises : (t : Stream) (i d x : ℕ) → u.passed t ≤ i → ((j : ℕ) → i ≤ j → j < i + d → Lives y u t j) → (found_at y u t i x).ver ≤ (found_at y u t (i + d) x).ver
  found-rises t i zero x above alive = let same : i + 0 ≡ i = omega arith in rw same (le_refl (found_at y u t i x).ver)
  found-rises t i (suc d) x above alive =
      let before : (found_at y u t i x).ver ≤ (found_at y u t (i + d) x).ver = found-rises t i d x above (λ j low high. alive j low (omega (arith, high))) in
      let step : (found_at y u t (i + d) x).ver ≤ (found_at y u t (suc (i + d)) x).ver = found-step t (i + d) x (omega (arith, above)) (alive (i + d) (omega arith) (omega arith)) in
      let same : i + suc d ≡ suc (i + d) = omega arith in
      rw same (omega (arith, before, step))

  -- what a live node keeps of a stream, up to its last entry, can still pass
  pub down-lives : (t : Stream) (n k j : ℕ) → IsLive y.system n → Has (stream_state y.system t) n k → u.passed t ≤ j → j ≤ k → Has (stream_state y.system t) n j × Lives y u t j
  down-lives t n k j live h above below = stored-down (stream_state y.system t) (u.passed t) n k j (f.replication t) (stream-stopped y.system t n ∙ live) h above below

  found-below : (t : Stream) (n k i j x : ℕ) → IsLive y.system n → Has (stream_state y.system t) n k → u.passed t ≤ i → i ≤ j → j ≤ suc k → (found_at y u t i x).ver ≤ (found_at y u t j x).ver
  found-below t n k i j x live h above order below =
      let same : i + (j - i) ≡ j = omega (arith, order) in
      subst (λ (m : ℕ). (found_at y u t i x).ver ≤ (found_at y u t m x).ver) same
      (found-rises t i (j - i) x above (λ m low high. (down-lives t n k m live h (omega (arith, above, low)) (omega (arith, high, order, below))).1))

  -- along the entries that a live node keeps, each write is above what the history leaves
  pub versions-above : (t : Stream) (n k : ℕ) (w : Write) → IsLive y.system n → Has (stream_state y.system t) n k → u.passed t ≤ k → In w (pending_at y t k).writes → (left y w.obj).ver < w.ver
  versions-above t n k w live h above i =
      let low : (found_at y u t (u.passed t) w.obj).ver ≤ (found_at y u t k w.obj).ver = found-below t n k (u.passed t) k w.obj live h (le_refl (u.passed t)) above (omega arith) in
      let start : (found_at y u t (u.passed t) w.obj).ver ≡ (left y w.obj).ver = ap (λ (g : ℕ → Content). (g w.obj).ver) (found-start y u t) in
      let ver = write-version t k w (kept-lives y u f t n k live h above) i in
      omega (arith, low, start, ver)

  -- and a later one above an earlier one
  pub versions-rise : (t : Stream) (n k j : ℕ) (v w : Write) → IsLive y.system n → Has (stream_state y.system t) n k → u.passed t ≤ j → j < k → w.obj ≡ v.obj
      → In v (pending_at y t j).writes → In w (pending_at y t k).writes → v.ver < w.ver
  versions-rise t n k j v w live h above order same one two =
      let early = down-lives t n k j live h above (omega (arith, order)) in
      let after : found_at y u t (suc j) v.obj ≡ written_content v = found-written t j v above early.1 one in
      let low : (found_at y u t (suc j) v.obj).ver ≤ (found_at y u t k v.obj).ver = found-below t n k (suc j) k v.obj live h (omega (arith, above)) order (omega arith) in
      let ver : w.ver ≡ (found_at y u t k v.obj).ver + 1 = rw (← same) (write-version t k w (kept-lives y u f t n k live h (omega (arith, above, order))) two) in
      omega (arith, low, ver, ap (λ (c : Content). c.ver) after)

  -- ---- what an owner has

  owner-none : (o : Option Rattle.zeus_packet.specs.declared.place.Proposal.Proposal) → is_none o ≡ true → o ≡ None
  owner-none None h = refl
  owner-none (Some p) h = absurd cc

  -- a live node that owns an object is its owner
  pub owns-owner : (n x : ℕ) → IsLive y.system n → owns (y.system.node n) x ≡ true → IsOwner (object y.system x) n
  unfolding owns object
  owns-owner n x live h =
      let k = f.steady.nodes n live in
      let parts = and_parts _ _ h in
      let is : (object y.system x).entry n ≡ entry (y.system.node n) x = object-entry y.system x n k.within in
      record {
        live = live;
        free = rw is (owner-none (entry (y.system.node n) x).proposal parts.1);
        owner = rw is (eq_from _ _ parts.0 ∙ k.me);
      }

  -- so its settled placement is the latest, and it is one of its replicas
  pub owns-latest : (n x : ℕ) → x < length y.system.config.objects → IsLive y.system n → owns (y.system.node n) x ≡ true
      → ((entry (y.system.node n) x).place ≡ place_now y u x) × ((place_now y u x).owner ≡ n) × (has n (place_now y u x).replicas ≡ true)
  owns-latest n x within live h =
      let o = owns-owner n x live h in
      let is : (object y.system x).entry n ≡ entry (y.system.node n) x = object-entry y.system x n (f.steady.nodes n live).within in
      let last : ((object y.system x).entry n).place ≡ place_now y u x = owner-latest (object y.system x) (u.chain x) (f.ownership x within) n o in
      let owner : (place_now y u x).owner ≡ n = ap (λ (p : Place). p.owner) (sym last) ∙ o.owner in
      let placed = latest-placed (object y.system x) (u.chain x) (f.ownership x within) in
      (ap (λ (e : Entry). e.place) (sym is) ∙ last, owner, rw owner at placed.owner)

  -- what a stream's own node keeps
  pub home-has : (t : Stream) (k : ℕ) → u.passed t ≤ k → k < end (stream_state y.system t) → Has (stream_state y.system t) t.node k
  home-has t k above below =
      let here_now : Has (stream_state y.system t) (stream_state y.system t).home k = (omega (arith, above, (f.replication t).most (stream_state y.system t).home), below) in
      rw (stream-home y.system t) at here_now

  -- what entries that do not write an object find of it
  found-still : (t : Stream) (i d x : ℕ) → u.passed t ≤ i → ((j : ℕ) → i ≤ j → j < i + d → (w : Write) → In w (pending_at y t j).writes → w.obj ≢ x) → found_at y u t (i + d) x ≡ found_at y u t i x
  found-still t i zero x above none = let same : i + 0 ≡ i = omega arith in rw same refl
  found-still t i (suc d) x above none =
      let same : i + suc d ≡ suc (i + d) = omega arith in
      let step : found_at y u t (suc (i + d)) x ≡ found_at y u t (i + d) x = found-unwritten t (i + d) x (omega (arith, above)) (none (i + d) (omega arith) (omega arith)) in
      let before : found_at y u t (i + d) x ≡ found_at y u t i x = found-still t i d x above (λ j low high. none j low (omega (arith, high))) in
      rw same (step ∙ before)

  found-same : (t : Stream) (i k x : ℕ) → u.passed t ≤ i → i ≤ k → ((j : ℕ) → i ≤ j → j < k → (w : Write) → In w (pending_at y t j).writes → w.obj ≢ x) → found_at y u t k x ≡ found_at y u t i x
  found-same t i k x above order none =
      let same : i + (k - i) ≡ k = omega (arith, order) in
      subst (λ (m : ℕ). found_at y u t m x ≡ found_at y u t i x) same (found-still t i (k - i) x above (λ j low high. none j low (omega (arith, high, order))))

  -- a copy is not below what its node keeps
  not-below : (n x k : ℕ) (t : Stream) (c : Copy) (w : Write) → x < length y.system.config.objects → IsLive y.system n → copy (y.system.node n) x ≡ Some c → Has (stream_state y.system t) n k → u.passed t ≤ k
      → In w (pending_at y t k).writes → w.obj ≡ x → w.ver ≤ c.ver
  not-below n x k t c w within live is h above i named_x =
      f.copied.taken n t k w c (rw named_x within) live h above (rw (kept-writes y u f t n k h above) i) (rw named_x is)

  lives-end : (t : Stream) (k : ℕ) → Lives y u t k → k < end (stream_state y.system t)
  unfolding IsAlive
  lives-end t k alive = alive.1

  copy-left : (n x : ℕ) (t : Stream) (c : Copy) → t.node ≡ n → x < length y.system.config.objects → IsLive y.system n → copy (y.system.node n) x ≡ Some c → content_of c ≡ left y x
      → content_of c ≡ found_at y u t (end (stream_state y.system t)) x
  copy-left n x t c home within live is same =
      let none : (j : ℕ) → u.passed t ≤ j → j < end (stream_state y.system t) → (w : Write) → In w (pending_at y t j).writes → w.obj ≢ x =
      λ j low high w i named_x.
      let h : Has (stream_state y.system t) n j = subst (λ (m : ℕ). Has (stream_state y.system t) m j) home (home-has t j low high) in
      let not_above = not-below n x j t c w within live is h low i named_x in
      let above : (left y x).ver < w.ver = rw named_x at (versions-above t n j w live h low i) in
      omega (arith, not_above, above, ap (λ (k : Content). k.ver) same)
      in
      same ∙ ap (λ (g : ℕ → Content). g x) (sym (found-start y u t))
      ∙ sym (found-same t (u.passed t) (end (stream_state y.system t)) x (le_refl (u.passed t)) (f.replication t).committed none)

  copy-newer : (n x k : ℕ) (t : Stream) (c : Copy) → t.node ≡ n → x < length y.system.config.objects → IsLive y.system n → copy (y.system.node n) x ≡ Some c
      → u.passed t ≤ k → Has (stream_state y.system t) n k → In record { obj = x; ver = c.ver; value = c.value } (pending_at y t k).writes
      → content_of c ≡ found_at y u t (end (stream_state y.system t)) x
  copy-newer n x k t c home within live is above h i =
      let v : Write = record { obj = x; ver = c.ver; value = c.value } in
      let none : (j : ℕ) → suc k ≤ j → j < end (stream_state y.system t) → (w : Write) → In w (pending_at y t j).writes → w.obj ≢ x =
      λ j low high w there_is named_x.
      let at : Has (stream_state y.system t) n j = subst (λ (m : ℕ). Has (stream_state y.system t) m j) home (home-has t j (omega (arith, low, above)) high) in
      let not_above = not-below n x j t c w within live is at (omega (arith, low, above)) there_is named_x in
      let rise = versions-rise t n j k v w live at above low named_x i there_is in
      omega (arith, not_above, rise)
      in
      let alive = kept-lives y u f t n k live h above in
      let after : found_at y u t (suc k) x ≡ content_of c = found-written t k v above alive i in
      let last : k < end (stream_state y.system t) = lives-end t k alive in
      sym (found-same t (suc k) (end (stream_state y.system t)) x (omega (arith, above)) last none ∙ after)

  -- the copy of an owner, where no other slot's pending entry names the object, is what the slot's next entry finds
  pub owner-copy : (n x : ℕ) (t : Stream) → t.node ≡ n → x < length y.system.config.objects → IsLive y.system n → owns (y.system.node n) x ≡ true
      → ((r i : ℕ) → r ≢ t.slot → i < length (slot (y.system.node n) r).pending → mentions x (nth no_pending (slot (y.system.node n) r).pending i).named ≡ true → ⊥)
      → (c : Copy) × (copy (y.system.node n) x ≡ Some c) × (content_of c ≡ found_at y u t (end (stream_state y.system t)) x)
  owner-copy n x t home within live h alone =
      let latest_is = owns-latest n x within live h in
      let there_is = some_from (copy (y.system.node n) x) ((f.copied.placed n x within live).1 latest_is.2) in
      let c : Copy = there_is.0 in
      let is : copy (y.system.node n) x ≡ Some c = there_is.1 in
      elim (f.copied.content n x c within live is) [
        | inl same ↦ (c, is, copy-left n x t c home within live is same)
        | inr newer ↦
            let w = newer.written in
            let alive : Lives y u w.0 w.1 = kept-lives y u f w.0 n w.1 live w.3 w.2 in
            let i : In record { obj = x; ver = c.ver; value = c.value } (pending_at y w.0 w.1).writes = rw (← kept-writes y u f w.0 n w.1 w.3 w.2) w.4 in
            let names : mentions x (pending_at y w.0 w.1).named ≡ true = written-named y u f w.0 w.1 record { obj = x; ver = c.ver; value = c.value } alive i in
            let own : w.0.node ≡ n = f.entered.owner w.0 w.1 x alive names ∙ latest_is.1 in
            elim (same_or_not w.0.slot t.slot) [
              | inr other ↦
                  let pending = (lives-pending y u f w.0 w.1 alive).1 in
                  absurd (alone w.0.slot (w.1 - (slot (y.system.node n) w.0.slot).done) other (rw own at pending) (rw own at names))
              | inl slots ↦
                  let same : w.0 ≡ t = stream_eq w.0 t (own ∙ sym home) slots in
                  (c, is, copy-newer n x w.1 t c home within live is (rw same at w.2) (rw same at w.3) (rw same at i))
            ]
      ]
    where
      some_from : (o : Option Copy) → is_some o ≡ true → (c : Copy) × (o ≡ Some c)
      some_from None h = absurd cc
      some_from (Some c) h = (c, refl)

      stream_of : ℕ → ℕ → Stream
      stream_of k l = record { node = k; slot = l }

      stream_eq : (s t : Stream) → s.node ≡ t.node → s.slot ≡ t.slot → s ≡ t
      stream_eq s t a b = ap (λ (k : ℕ). stream_of k s.slot) a ∙ ap (λ (k : ℕ). stream_of t.node k) b
