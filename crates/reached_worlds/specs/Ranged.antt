-- What every reached world keeps: its sizes, and the ranges of all that stands in it.
use Rattle.std.specs.Prelude.{ℕ, ◌≡◌, ◌<◌, true, List, [], length}
use Rattle.zeus_base.specs.Limits.{KeepsLimits, limits_of}
use Rattle.zeus_packet.specs.Fits.{nodes_fit}
use Rattle.zeus_model.specs.Scripts.{FitsTxs}
use Rattle.zeus_model.specs.Tables.{nth}
use Rattle.zeus_model.specs.World.{World, link, node}
use Rattle.node_ranges.specs.Ranges.{AllFit, KeepsRanges}

-- a world in the ranges of its configuration
pub record IsRanged (w : World) : Type 0 where
  pub limits : KeepsLimits w.config
  pub declared : FitsTxs w.config w.txs
  pub count : length w.nodes ≡ w.config.nodes
  pub ranges : (n : ℕ) → n < w.config.nodes → KeepsRanges (limits_of w.config) (node w n)
  pub numbers : (n : ℕ) → n < w.config.nodes → (node w n).me ≡ n
  pub senders : length w.links ≡ w.config.nodes
  pub receivers : (n : ℕ) → n < w.config.nodes → length (nth [] w.links n) ≡ w.config.nodes
  pub letters : (from to : ℕ) → AllFit (limits_of w.config) (link w.links from to)
  pub members : (i : ℕ) → nodes_fit (limits_of w.config) (nth [] w.views i) ≡ true
  pub records : length w.book.records ≡ length w.txs
