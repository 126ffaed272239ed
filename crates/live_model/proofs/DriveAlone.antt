-- A drive of a run without steps does all the work.
use Rattle.std.specs.Prelude.{◌≡◌, true, List, [], ◌∷◌, None}
use Rattle.std.proofs.Common.{refl}
use Rattle.zeus_base.specs.declared.step.Step.TheVariants.{Begin, Try, Deliver}
use Rattle.zeus_txn.specs.declared.ops.Op.TheVariants.{Add}
use Rattle.zeus_txn.specs.declared.tx.TxDecl.{TxDecl}
use Rattle.zeus_model.specs.Readers.{all_closed}
use Rattle.zeus_model.specs.World.{start}
use Rattle.worked_runs.proofs.Machine.{machine}
use Rattle.live_model.specs.Drive.{drive}
use Rattle.live_model.proofs.Opened.{live}
use Rattle.live_model.proofs.WriteHereReadThere.{two_nodes}

abbrev one_write : List TxDecl
one_write = record { node = 0; slot = 0; after = None; tx = Add 0 3 ∷ [] } ∷ []

-- it begins, tries, and delivers the entry and its acknowledgement; then all is closed
steps : (drive (start two_nodes one_write) 1 None 0).steps ≡ Begin 0 ∷ Try 0 0 ∷ Deliver 0 1 0 ∷ Deliver 1 0 0 ∷ []
unfolding machine live
steps = refl

closed : all_closed (drive (start two_nodes one_write) 1 None 0).world ≡ true
unfolding machine live
closed = refl
