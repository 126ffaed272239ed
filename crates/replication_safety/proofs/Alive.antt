-- An entry that lives after a move lived before it, or was committed by it.
use Rattle.std.specs.Prelude.{ℕ, suc, ◌≡◌, ◌≢◌, ◌<◌, ◌≤◌, List, ◌⊎◌}
use Rattle.std.proofs.Common.{arith, sym, inl, inr}
use Rattle.std.proofs.lemmas.Bool.{cases_lt}
use Rattle.replication_safety.specs.StreamState.{StreamState, Letter, Entry, Stores, In, IsLive, Has, IsInFlight, IsAlive, top, end}
use Rattle.replication_safety.specs.Moves.{Sends, nothing, NewView, Stops, Installs, ReportsItself, Hears, Tells, Commits, StoresNext, Raises, NotesAck, PassesFirst}
use Rattle.replication_safety.specs.ReplicationInvariant.{IsCopy, ReplicationInvariant}
use Rattle.replication_safety.proofs.Basics.{silent-only}
use Rattle.replication_safety.proofs.PreservesReplication.{Grows}
use Rattle.replication_safety.proofs.Same.{SameKept, same-end, same-has_before}
use Rattle.replication_safety.proofs.Views.{viewed-kept, stops-kept, installs-kept, grows_NewView, grows_Stops, grows_Installs}
use Rattle.replication_safety.proofs.Reports.{reports-kept, hears-kept, grows_ReportsItself, grows_Hears}
use Rattle.replication_safety.proofs.Letters.{IsItsEntry, tellable-entry, tells-kept, grows_Tells}
use Rattle.replication_safety.proofs.Appends.{commits-appends, stores-appends, appends-top, appends-top_other, appends-has_before, grows_Commits, grows_StoresNext, receiver-foreign}
use Rattle.replication_safety.proofs.Drops.{raises-drops, drops-has_before, drops-top_other, grows_Raises}
use Rattle.replication_safety.proofs.Passing.{passes-drops, passes-top, grows_PassesFirst}
use Rattle.replication_safety.proofs.Acks.{notes-has_before, notes-top, grows_NotesAck}

-- who could pass the entry on: the stream's own node, a live node that keeps it, or one that can still get it
Lives : StreamState → ℕ → Type 0
Lives l k = IsLive l l.home ⊎ (((f : ℕ) × IsLive l f × Has l f k) ⊎ IsInFlight l k)

-- what lives after a move lived before, where nothing but what lived is kept or sent by it
alive-before : (old new : StreamState) (passed now k : ℕ) → Grows old new → passed ≤ now → (k < end new → k < end old)
    → ((f : ℕ) → IsLive old f → Has new f k → Lives old k) → (IsInFlight new k → Lives old k) → IsAlive new now k → IsAlive old passed k
unfolding IsAlive Lives
alive-before old new passed now k g rises ends keeps sends alive =
    let committed : k < end old = ends alive.1 in
    let above : passed ≤ k = omega (arith, alive.0) in
    elim alive.2 [
      | inl live ↦ let before : IsLive old old.home = rw g.home at (g.live new.home live) in (above, committed, inl before)
      | inr other ↦
          elim other [
            | inl kept ↦ (above, committed, keeps kept.0 (g.live kept.0 kept.1) kept.2)
            | inr flight ↦ (above, committed, sends flight)
          ]
    ]

-- where no letter with an entry is new
flight-silent : (old new : StreamState) (k : ℕ) → Grows old new → Sends old new nothing → IsInFlight new k → Lives old k
unfolding Lives
flight-silent old new k g s flight =
    let m : In (Stores flight.1 flight.0 flight.2 k flight.3 flight.4) old.letters = silent-only old new (Stores flight.1 flight.0 flight.2 k flight.3 flight.4) s flight.7 in
    inr (inr (flight.0, flight.1, flight.2, flight.3, flight.4, g.live flight.0 flight.5, omega (arith, g.epoch flight.0, flight.6), m))

kept-lives : (old : StreamState) (f k : ℕ) → IsLive old f → Has old f k → Lives old k
unfolding Lives
kept-lives old f k live h = inr (inl (f, live, h))

alive-same : (old new : StreamState) (passed now k : ℕ) → SameKept old new → Grows old new → Sends old new nothing → passed ≤ now → IsAlive new now k → IsAlive old passed k
alive-same old new passed now k s g silent rises alive =
    alive-before old new passed now k g rises (λ below. omega (arith, same-end old new s))
    (λ f live h. kept-lives old f k live (same-has_before old new f k s h))
    (flight-silent old new k g silent) alive

-- if an entry lives after a new view, then it lived before it
pub alive_NewView : (old new : StreamState) (passed now k : ℕ) (set : List ℕ) → NewView old new set → passed ≤ now → IsAlive new now k → IsAlive old passed k
alive_NewView old new passed now k set s = alive-same old new passed now k (viewed-kept old new set s) (grows_NewView old new set s) s.sends

-- if an entry lives after a node stops, then it lived before
pub alive_Stops : (old new : StreamState) (passed now k n : ℕ) → Stops old new n → passed ≤ now → IsAlive new now k → IsAlive old passed k
alive_Stops old new passed now k n s = alive-same old new passed now k (stops-kept old new n s) (grows_Stops old new n s) s.sends

-- if an entry lives after a node installs a view, then it lived before
pub alive_Installs : (old new : StreamState) (passed now k n e : ℕ) → Installs old new n e → passed ≤ now → IsAlive new now k → IsAlive old passed k
alive_Installs old new passed now k n e s = alive-same old new passed now k (installs-kept old new n e s) (grows_Installs old new n e s) s.sends

-- if an entry lives after a node reports, then it lived before
pub alive_ReportsItself : (old new : StreamState) (passed now k n : ℕ) → ReportsItself old new n → passed ≤ now → IsAlive new now k → IsAlive old passed k
alive_ReportsItself old new passed now k n s = alive-same old new passed now k (reports-kept old new n s) (grows_ReportsItself old new n s) s.sends

-- if an entry lives after a node hears a report, then it lived before
pub alive_Hears : (old new : StreamState) (passed now k n a : ℕ) → Hears old new n a → passed ≤ now → IsAlive new now k → IsAlive old passed k
alive_Hears old new passed now k n a s = alive-same old new passed now k (hears-kept old new n a s) (grows_Hears old new n a s) s.sends

-- a letter that is sent now is sent by a live node that keeps the entry
tells-flight : (old new : StreamState) (k n : ℕ) → Tells old new n → IsInFlight new k → Lives old k
unfolding Lives
tells-flight old new k n s flight =
    let g : Grows old new = grows_Tells old new n s in
    let x : Letter = Stores flight.1 flight.0 flight.2 k flight.3 flight.4 in
    elim (s.sends.only x flight.7) [
      | inl before ↦
          inr (inr (flight.0, flight.1, flight.2, flight.3, flight.4, g.live flight.0 flight.5, omega (arith, g.epoch flight.0, flight.6), before))
      | inr now ↦
          let t : IsItsEntry old n flight.1 flight.0 flight.2 k flight.3 flight.4 = tellable-entry old n flight.1 flight.0 flight.2 k flight.3 flight.4 now in
          kept-lives old n k s.acts.live t.kept
    ]

-- if an entry lives after a node sends letters by itself, then it lived before
pub alive_Tells : (old new : StreamState) (passed now k n : ℕ) → Tells old new n → passed ≤ now → IsAlive new now k → IsAlive old passed k
alive_Tells old new passed now k n s rises alive =
    let same : SameKept old new = tells-kept old new n s in
    alive-before old new passed now k (grows_Tells old new n s) rises (λ below. omega (arith, same-end old new same))
    (λ f live h. kept-lives old f k live (same-has_before old new f k same h))
    (tells-flight old new k n s) alive

-- if an entry lives after a node learns how many have passed, then it lived before
pub alive_Raises : (old new : StreamState) (passed now k n d : ℕ) → Raises old new passed n d → passed ≤ now → IsAlive new now k → IsAlive old passed k
alive_Raises old new passed now k n d s rises alive =
    let g : Grows old new = grows_Raises old new passed n d s in
    alive-before old new passed now k g rises
    (λ below. let own : k < top new old.home = rw g.home at below in omega (arith, drops-top_other old new n d old.home (raises-drops old new passed n d s) (λ same. s.foreign (sym same))))
    (λ f live h. kept-lives old f k live (drops-has_before old new n d f k (raises-drops old new passed n d s) h))
    (flight-silent old new k g s.acts.sends) alive

-- if an entry lives after a node passes its first one, then it lived before
pub alive_PassesFirst : (old new : StreamState) (passed now k n : ℕ) → PassesFirst old new n → passed ≤ now → IsAlive new now k → IsAlive old passed k
alive_PassesFirst old new passed now k n s rises alive =
    let g : Grows old new = grows_PassesFirst old new n s in
    alive-before old new passed now k g rises
    (λ below. let own : k < top new old.home = rw g.home at below in omega (arith, passes-top old new n old.home s))
    (λ f live h. kept-lives old f k live (drops-has_before old new n (suc (old.done n)) f k (passes-drops old new n s) h))
    (flight-silent old new k g s.acts.sends) alive

-- if an entry lives after an acknowledgement is noted, then it lived before
pub alive_NotesAck : (old new : StreamState) (passed now k n j a : ℕ) → NotesAck old new n j a → passed ≤ now → IsAlive new now k → IsAlive old passed k
alive_NotesAck old new passed now k n j a s rises alive =
    let g : Grows old new = grows_NotesAck old new n j a s in
    alive-before old new passed now k g rises
    (λ below. let own : k < top new old.home = rw g.home at below in omega (arith, notes-top old new n j a old.home s))
    (λ f live h. kept-lives old f k live (notes-has_before old new n j a f k s h))
    (flight-silent old new k g s.acts.sends) alive

-- what is stored now was on its way to the node
stores-lives : (old new : StreamState) (k n f : ℕ) (x : Entry) → StoresNext old new n x → IsLive old f → Has new f k → Lives old k
unfolding Lives
stores-lives old new k n f x s live h =
    elim (appends-has_before old new n f k x (stores-appends old new n x s) h) [
      | inl before ↦ kept-lives old f k live before
      | inr now ↦
          let sent : In (Stores s.sent.0 n (old.epoch n) k s.sent.1 x) old.letters = rw now.1 s.sent.3 in
          inr (inr (n, s.sent.0, old.epoch n, s.sent.1, x, s.acts.acts.live, omega arith, sent))
    ]

-- if an entry lives after a node stores the next one, then it lived before
pub alive_StoresNext : (old new : StreamState) (passed now k n : ℕ) (x : Entry) → ReplicationInvariant old passed → StoresNext old new n x → passed ≤ now → IsAlive new now k → IsAlive old passed k
alive_StoresNext old new passed now k n x r s rises alive =
    let g : Grows old new = grows_StoresNext old new n x s in
    let c : IsCopy old passed n (top old n) s.sent.1 x = r.copies s.sent.0 n (old.epoch n) (top old n) s.sent.1 x s.sent.3 in
    let foreign : old.home ≢ n = λ same. receiver-foreign old passed n (top old n) s.sent.1 x c (sym same) in
    alive-before old new passed now k g rises
    (λ below. let own : k < top new old.home = rw g.home at below in omega (arith, appends-top_other old new n old.home x (stores-appends old new n x s) foreign))
    (λ f live h. stores-lives old new k n f x s live h)
    (flight-silent old new k g s.acts.sends) alive

-- if an entry lives after a commit, then it lived before or is the one committed
pub alive_Commits : (old new : StreamState) (passed now k : ℕ) (x : Entry) → Commits old new x → passed ≤ now → IsAlive new now k → IsAlive old passed k ⊎ (k ≡ end old)
unfolding IsAlive
alive_Commits old new passed now k x s rises alive =
    let g : Grows old new = grows_Commits old new x s in
    let own : k < top new old.home = rw g.home at alive.1 in
    let more : top new old.home ≡ suc (top old old.home) = appends-top old new old.home x (commits-appends old new x s) in
    elim (cases_lt k (end old)) [
      | inl below ↦ inl (omega (arith, alive.0), below, inl s.acts.acts.live)
      | inr above ↦ inr (omega arith)
    ]
