-- The world as the proofs see it: nodes by number, and all letters that were ever sent, whatever their links.
use Rattle.std.specs.Prelude.{ℕ, ◌≡◌, ◌≢◌, ◌-◌, ◌<◌, ◌≤◌, true, false, List, [], ◌∷◌, ◌++◌, length, ◌⊎◌}
use Rattle.zeus_base.specs.Nodes.{has, is_subset}
use Rattle.zeus_base.specs.NodeLaws.{IsRising}
use Rattle.zeus_base.specs.declared.config.Config.{Config}
use Rattle.zeus_packet.specs.declared.letter.Letter.{Letter}
use Rattle.zeus_model.specs.In.{In}
use Rattle.zeus_model.specs.Tables.{nth}
use Rattle.zeus_model.specs.State.{Node}
use Rattle.zeus_model.specs.World.{World, node}

-- the configuration, the views, the nodes by number, and all letters that were ever sent
pub record SystemState : Type 0 where
  pub config : Config
  -- by epoch, from 1
  pub views : List (List ℕ)
  -- by number; past the last node stand stopped ones
  pub node : ℕ → Node
  -- all letters that were ever sent
  pub letters : List Letter

-- the letters of some links
unfoldable pub all_of : {A : Type 0} → List (List A) → List A
all_of [] = []
all_of (xs ∷ xss) = xs ++ all_of xss

-- the system of a world
unfoldable pub system : World → SystemState
system w = record { config = w.config; views = w.views; node = node w; letters = all_of (all_of w.links) }

-- the members of an epoch
abbrev pub view : SystemState → ℕ → List ℕ
view s e = nth [] s.views (e - 1)

-- a node is not stopped
abbrev pub IsLive : SystemState → ℕ → Type 0
IsLive s n = (s.node n).stopped ≡ false

-- the letter was sent to the node in the node's epoch
abbrev pub IsReceivable : SystemState → ℕ → Letter → Type 0
IsReceivable s n l = (l.to ≡ n) × (l.epoch ≡ (s.node n).epoch) × In l s.letters

-- a live node is one of the configuration, knows its number, directory and degree, and is in one of the epochs, with its members
pub record IsNumbered (s : SystemState) : Type 0 where
  pub within : (n : ℕ) → IsLive s n → n < s.config.nodes
  pub me : (n : ℕ) → IsLive s n → (s.node n).me ≡ n
  pub directory : (n : ℕ) → IsLive s n → (s.node n).directory ≡ s.config.directory
  pub degree : (n : ℕ) → IsLive s n → (s.node n).degree ≡ s.config.degree
  pub epoch : (n : ℕ) → IsLive s n → (1 ≤ (s.node n).epoch) × ((s.node n).epoch ≤ length s.views)
  pub members : (n : ℕ) → IsLive s n → (s.node n).members ≡ view s (s.node n).epoch

-- the letters stay, and each new one is allowed
pub record Sends (old new : SystemState) (allowed : Letter → Type 0) : Type 0 where
  pub stay : (l : Letter) → In l old.letters → In l new.letters
  pub only : (l : Letter) → In l new.letters → In l old.letters ⊎ allowed l

-- no letter is allowed
abbrev pub nothing : Letter → Type 0
nothing l = ⊥

-- a live node becomes another, and sends letters that are allowed
pub record Changes (old new : SystemState) (n : ℕ) (after : Node) (allowed : Letter → Type 0) : Type 0 where
  pub live : IsLive old n
  pub config : new.config ≡ old.config
  pub views : new.views ≡ old.views
  pub node : new.node n ≡ after
  pub others : (m : ℕ) → m ≢ n → new.node m ≡ old.node m
  pub sends : Sends old new allowed

-- nothing has changed but the order of the letters
pub record Same (old new : SystemState) : Type 0 where
  pub config : new.config ≡ old.config
  pub views : new.views ≡ old.views
  pub nodes : (m : ℕ) → new.node m ≡ old.node m
  pub sends : Sends old new nothing

-- a view with at least one member, all of the last view, that leaves out no live node
pub record NewView (old new : SystemState) (set : List ℕ) : Type 0 where
  pub config : new.config ≡ old.config
  pub views : new.views ≡ old.views ++ set ∷ []
  pub nodes : (m : ℕ) → new.node m ≡ old.node m
  pub sends : Sends old new nothing
  pub rising : IsRising set
  pub subset : is_subset set (view old (length old.views)) ≡ true
  pub live : (n : ℕ) → IsLive old n → has n set ≡ true
