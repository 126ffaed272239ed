-- The commits of an own slot that wait for acknowledgements.
use Rattle.std.specs.Prelude.{ℕ, suc, ◌≡◌, ◌+◌, ◌-◌, ◌^◌, ◌<◌, ◌≤◌, Bool, ◌&&◌, ◌||◌, not, ◌==◌, List, [], ◌∷◌, ◌++◌, length}
use Rattle.zeus_base.specs.Nodes.{has, meet}
use Rattle.zeus_model.specs.declared.state.Pending.{Pending}
use Rattle.zeus_model.specs.Commit.{is_within, no_pending, acked_pending}
use Rattle.zeus_model.specs.Membership.{apart}
use Rattle.zeus_model.specs.Tables.{nth, put}
use Rattle.commit_pipeline.specs.declared.due.Due.{Due}

-- how many entries have passed, and the pending ones behind these, which are numbered from there on
pub record Waiting : Type 0 where
  pub done : ℕ
  pub pending : List Pending

-- an acknowledgement counts where its entry is pending and the sender has not acknowledged it
unfoldable pub counts : Waiting → ℕ → ℕ → Bool
counts w number from =
    is_within number w.done (length w.pending) && not (has from (nth no_pending w.pending (number - w.done)).acks)

-- the entry of this number has one acknowledgement more
abbrev pub acknowledged : Waiting → ℕ → ℕ → Waiting
acknowledged w number from =
    record {
      done = w.done;
      pending = put no_pending w.pending (number - w.done) (acked_pending (nth no_pending w.pending (number - w.done)) from);
    }

-- the entry of this number, due at each of the nodes
unfoldable pub sends : ℕ → List ℕ → List Due
sends number [] = []
sends number (n ∷ ns) = record { number = number; to = n } ∷ sends number ns

-- the followers that have not acknowledged the entry
abbrev pub lacking : Pending → List ℕ
lacking p = apart p.followers p.acks

-- the members among them
abbrev pub lacking_among : List ℕ → Pending → List ℕ
lacking_among members p = apart (meet p.followers members) p.acks

-- each entry, numbered in order from a number on, due at each of its nodes
unfoldable pub sends_of : (Pending → List ℕ) → ℕ → List Pending → List Due
sends_of nodes number [] = []
sends_of nodes number (p ∷ ps) = sends number (nodes p) ++ sends_of nodes (suc number) ps

-- the sends that are due: each pending entry in order to each follower that has not acknowledged it
abbrev pub all_due : Waiting → List Due
all_due w = sends_of lacking w.done w.pending

-- those to members
abbrev pub outstanding : List ℕ → Waiting → List Due
outstanding members w = sends_of (lacking_among members) w.done w.pending

-- whether a send is of another entry, or to another node
abbrev pub is_other : ℕ → ℕ → Due → Bool
is_other number node d = not (d.number == number) || not (d.to == node)

-- whether a send is of another entry
abbrev pub is_of_other : ℕ → Due → Bool
is_of_other number d = not (d.number == number)

-- whether a send is to a member
abbrev pub is_to : List ℕ → Due → Bool
is_to members d = has d.to members

-- each entry has at most 8 followers
unfoldable pub HaveFewFollowers : List Pending → Type 0
HaveFewFollowers [] = Unit {0}
HaveFewFollowers (p ∷ ps) = (length p.followers ≤ 8) × HaveFewFollowers ps

-- what a pipe keeps: at most 16 entries, whose numbers fit, and the list of the sends that are due
pub record IsKept (w : Waiting) (kept : List Due) : Type 0 where
  pub few : length w.pending ≤ 16
  pub numbered : w.done + length w.pending < 2 ^ 32
  pub followers : HaveFewFollowers w.pending
  pub due : kept ≡ all_due w
