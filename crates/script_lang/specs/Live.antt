-- Which scripts a live run takes, and what of the language is read.
use Rattle.std.specs.Prelude.{◌≡◌, ◌≤◌, Bool, true, [], length}
use Rattle.zeus_model.specs.Places.{Opening}
use Rattle.zeus_model.specs.declared.script.Script.{Script}

-- what of the language is read: both versions and the line of the degree
abbrev pub opening : Bool → Opening
opening live = record { newest = 2; degree = true; live = live }

-- a script of a live run has at most 1,000 transactions and no step; another script has no such bound
pub record FitsLive (live : Bool) (s : Script) : Type 0 where
  pub txs : live ≡ true → length s.txs ≤ 1000
  pub steps : live ≡ true → s.steps ≡ []
