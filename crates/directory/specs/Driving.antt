-- What an answer to a request reads of a node, and what it says.
use Rattle.std.specs.Prelude.{ℕ, ◌≡◌, List, Option, Some, None}
use Rattle.zeus_packet.specs.declared.letter.Cause.{Cause}
use Rattle.zeus_packet.specs.declared.place.Proposal.{Proposal}
use Rattle.zeus_model.specs.State.{Node}
use Rattle.owner_entry.specs.Directory.{Directory}
use Rattle.directory.specs.declared.drive.Drive.{Drive}
use Rattle.directory.specs.declared.drive.Drive.TheVariants.{Yes, No}

-- a node that has the entries, the directory and the degree of what is known, this number and these members
pub record IsNodeWith (n : Node) (d : Directory) (m : ℕ) (ms : List ℕ) : Type 0 where
  pub entries : n.entries ≡ d.entries
  pub directory : n.directory ≡ d.nodes
  pub degree : n.degree ≡ d.degree
  pub me : n.me ≡ m
  pub members : n.members ≡ ms

-- the first cause stands against a drive; where there is none, the request is driven by the proposal
unfoldable pub answered : Option Cause → Proposal → Drive
answered None p = Yes p
answered (Some cause) p = No cause
