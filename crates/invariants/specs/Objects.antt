-- One object of a system, as the ownership protocol sees it.
use Rattle.std.specs.Prelude.{ℕ, ◌==◌, nat_lt, List, [], ◌∷◌, ◌++◌, None, if◌then◌else◌}
use Rattle.zeus_base.specs.declared.config.Config.{Config}
use Rattle.zeus_base.specs.declared.config.ObjectDecl.{ObjectDecl}
use Rattle.zeus_base.specs.declared.value.Value.TheVariants.{Num}
use Rattle.zeus_packet.specs.declared.letter.Body.{Body}
use Rattle.zeus_packet.specs.declared.letter.Body.TheVariants.{OInv, OAck, OVal}
use Rattle.zeus_packet.specs.declared.letter.Letter.{Letter}
use Rattle.zeus_model.specs.Tables.{nth}
use Rattle.zeus_model.specs.State.{entry, gather}
use Rattle.zeus_model.specs.World.{start_entry}
use Rattle.zeus_model.specs.declared.state.Entry.{Entry}
use Rattle.machine_moves.specs.SystemState.{SystemState}
use Rattle.ownership_safety.specs.Object.{Object, Invalidates, Acknowledges, Validates, Letter as Said}

-- the declaration that stands for none
abbrev pub no_object : ObjectDecl
no_object = record { value = Num 0; owner = 0; replicas = [] }

-- the entry that every node begins with
abbrev pub declared_entry : Config → ℕ → Entry
declared_entry c x = start_entry (nth no_object c.objects x)

-- what is said of the second object, if it is the first
unfoldable pub only_about : ℕ → ℕ → Said → List Said
only_about x y l = if y == x then l ∷ [] else []

-- what a letter says of the object
unfoldable pub said_of : ℕ → ℕ → ℕ → ℕ → Body → List Said
said_of x from to epoch (OInv y p) = only_about x y (Invalidates from to epoch p)
said_of x from to epoch (OAck y p c) = only_about x y (Acknowledges from to epoch p c)
said_of x from to epoch (OVal y stamp place) = only_about x y (Validates stamp place)
said_of x from to epoch _ = []

-- what letters say of the object
unfoldable pub about : ℕ → List Letter → List Said
about x [] = []
about x (l ∷ ls) = said_of x l.from l.to l.epoch l.body ++ about x ls

-- the object of a system; the nodes that it has not stand at the declared placement for good
unfoldable pub object : SystemState → ℕ → Object
object s x =
    record {
      directory = s.config.directory;
      declared = (declared_entry s.config x).place;
      views = s.views;
      stopped = λ n. (s.node n).stopped;
      epoch = λ n. (s.node n).epoch;
      entry = λ n. if nat_lt n s.config.nodes then entry (s.node n) x else declared_entry s.config x;
      gather = λ n. if nat_lt n s.config.nodes then gather (s.node n) x else None;
      letters = about x s.letters;
    }
