use Rattle.node_ranges.specs.StartRanges.{KeepsRanges-start}
use Rattle.node_ranges.specs.LocalRules.{begin-keeps, try_slot-keeps}
use Rattle.node_ranges.specs.ReceiveRules.{receive-keeps}
use Rattle.node_ranges.specs.TickRules.{tick-keeps, install-keeps, stop-keeps}
use Rattle.node_ranges.proofs.ranges_are_kept.Goals as goal

pub returns-clause-start : goal.returns-clause-start
returns-clause-start c = KeepsRanges-start

pub returns-clause-begin : goal.returns-clause-begin
returns-clause-begin c = begin-keeps

pub returns-clause-try_slot : goal.returns-clause-try_slot
returns-clause-try_slot c = try_slot-keeps

pub returns-clause-receive : goal.returns-clause-receive
returns-clause-receive c = receive-keeps

pub returns-clause-tick : goal.returns-clause-tick
returns-clause-tick c = tick-keeps

pub returns-clause-install : goal.returns-clause-install
returns-clause-install c = install-keeps

pub returns-clause-stop : goal.returns-clause-stop
returns-clause-stop c = stop-keeps
