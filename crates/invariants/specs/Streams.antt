-- One stream of a system, as the commit protocol sees it.
use Rattle.std.specs.Prelude.{ℕ, ◌==◌, List, [], ◌∷◌, ◌++◌, if◌then◌else◌}
use Rattle.zeus_base.specs.Order.{same_stream}
use Rattle.zeus_base.specs.declared.order.Stream.{Stream}
use Rattle.zeus_packet.specs.declared.letter.Body.{Body}
use Rattle.zeus_packet.specs.declared.letter.Body.TheVariants.{RInv, RAck, RVal, Recovered}
use Rattle.zeus_packet.specs.declared.letter.Letter.{Letter}
use Rattle.zeus_model.specs.State.{Node, slot, log}
use Rattle.zeus_model.specs.declared.state.Kept.{Kept}
use Rattle.machine_moves.specs.Move.{own_kept}
use Rattle.machine_moves.specs.SystemState.{SystemState}
use Rattle.replication_safety.specs.StreamState.{StreamState, Stores, Stored, Passes, Reports, Letter as Said}

-- what is said of the second stream, if it is the first
unfoldable pub only_of : Stream → Stream → Said → List Said
only_of s t l = if same_stream t s then l ∷ [] else []

-- what a letter says of the stream
unfoldable pub said_of : Stream → ℕ → ℕ → ℕ → Body → List Said
said_of s from to epoch (RInv r) = only_of s r.stream (Stores from to epoch r.number r.done record { followers = r.followers; writes = r.writes })
said_of s from to epoch (RAck t number) = only_of s t (Stored from number)
said_of s from to epoch (RVal t done) = only_of s t (Passes to done)
said_of s from to epoch Recovered = Reports from epoch ∷ []
said_of s from to epoch _ = []

-- what letters say of the stream
unfoldable pub about : Stream → List Letter → List Said
about s [] = []
about s (l ∷ ls) = said_of s l.from l.to l.epoch l.body ++ about s ls

-- how many entries of the stream a node knows to have passed
unfoldable pub done_of : Node → Stream → ℕ → ℕ
done_of n s number = if number == s.node then (slot n s.slot).done else (log n s).done

-- the entries of the stream that a node keeps behind these
unfoldable pub kept_of : Node → Stream → ℕ → List Kept
kept_of n s number = if number == s.node then own_kept n s.slot else (log n s).kept

-- the stream of a system
unfoldable pub stream_state : SystemState → Stream → StreamState
stream_state s t =
    record {
      home = t.node;
      views = s.views;
      stopped = λ n. (s.node n).stopped;
      epoch = λ n. (s.node n).epoch;
      reported = λ n. (s.node n).reported;
      done = λ n. done_of (s.node n) t n;
      kept = λ n. kept_of (s.node n) t n;
      letters = about t s.letters;
    }
