use Rattle.std.proofs.Common.{◌≡◌, ◌≤◌, ◌++◌, length, drop, take}
use Rattle.zeus_packet.specs.declared.place.Want.TheVariants.{Own}
use Rattle.zeus_model.specs.Local.{not_owned, requests}
use Rattle.node_state.proofs.state.NodeState.request_unowned.Given as goal

-- the requests for the objects that are left make the same end
abbrev pub invariant-loop-object : goal.invariant-loop-object
invariant-loop-object l = record {
  letters : take 64 (l.out.sent ++ requests l.self Own (not_owned l.self (drop l.object-index l.object-items))) ≡ take 64 (l.initial.out.sent ++ requests l.self Own (not_owned l.self l.objects));
  passes : l.out.passed ≡ l.initial.out.passed;
  room : length l.out.sent ≤ 64;
}
