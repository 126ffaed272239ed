use Rattle.std.proofs.Common.{◌≡◌, ◌≤◌, List, [], arith}
use Rattle.std.specs.Prelude.{replicate}
use Rattle.zeus_base.specs.Tables.{nth}
use Rattle.lossy_fabric.specs.Links.{HasRoom, IsLink, LinkState, no_link, room}
use Rattle.node_tests.proofs.tests.lossy_fabric_calls.keeps_each_packet_of_a_link.Goals as goal

linked : (rows : List (List LinkState)) → rows ≡ replicate 2 (replicate 2 no_link) → IsLink rows 0 1 × IsLink rows 1 0
unfolding nth
linked rows is = rw is (record { from = omega arith; to = omega arith }, record { from = omega arith; to = omega arith })

roomy : (rows : List (List LinkState)) → IsLink rows 0 1 → HasRoom 64 (nth [] rows 0) → 64 ≤ room rows 0 1
unfolding HasRoom
roomy rows is has = has 1 is.to

pub send-requires-clause-there : goal.send-requires-clause-there
send-requires-clause-there c = λ d. d.reserve.ensures.links 0 1 (linked _ d.in_ok-links.ensures).0

pub send-requires-clause-room : goal.send-requires-clause-room
send-requires-clause-room c = λ d.
    let there = d.reserve.ensures.links 0 1 (linked _ d.in_ok-links.ensures).0 in
    omega (arith, roomy d.reserve.new.self there d.in_ok-reserve.ensures.room)

pub send-requires-2-clause-there : goal.send-requires-2-clause-there
send-requires-2-clause-there c = λ d. d.send.ensures.links 0 1 (d.reserve.ensures.links 0 1 (linked _ d.in_ok-links.ensures).0)

pub send-requires-2-clause-room : goal.send-requires-2-clause-room
send-requires-2-clause-room c = λ d.
    let there = d.reserve.ensures.links 0 1 (linked _ d.in_ok-links.ensures).0 in
    omega (arith, roomy d.reserve.new.self there d.in_ok-reserve.ensures.room, d.send.ensures.room 0 1)

pub count-requires : goal.count-requires
count-requires c = λ d. d.send-2.ensures.links 0 1 (d.send.ensures.links 0 1 (d.reserve.ensures.links 0 1 (linked _ d.in_ok-links.ensures).0))

pub count-requires-2 : goal.count-requires-2
count-requires-2 c = λ d. d.send-2.ensures.links 1 0 (d.send.ensures.links 1 0 (d.reserve.ensures.links 1 0 (linked _ d.in_ok-links.ensures).1))

pub get-second-requires : goal.get-second-requires
get-second-requires c = λ d. d.send-2.ensures.links 0 1 (d.send.ensures.links 0 1 (d.reserve.ensures.links 0 1 (linked _ d.in_ok-links.ensures).0))

pub get-requires : goal.get-requires
get-requires c = λ d. d.send-2.ensures.links 0 1 (d.send.ensures.links 0 1 (d.reserve.ensures.links 0 1 (linked _ d.in_ok-links.ensures).0))
