use Rattle.std.proofs.Common.{ℕ, Bool, nat_lt, ◌<◌, refl}
use Rattle.std.proofs.lemmas.Bool.Decides.{same_from_decides, Decides-by_and, Decides-ltb}
use Rattle.std.specs.List.{list_all}
use Rattle.zeus_packet.specs.Fits.{nodes_fit}
use Rattle.zeus_packet.proofs.ranges.nodes_fit.Goals as goal

pub returns : goal.returns
unfolding nodes_fit
returns c =
    let count = c.args.limits.now.nodes in
    let below : ℕ → Bool = λ n. nat_lt n count in
    same_from_decides c.are_below.result (list_all below c.args.nodes) c.are_below.ensures (Decides-by_and below (λ n. n < count) (list_all below) (λ n. Decides-ltb n count) refl (λ _ _. refl) c.args.nodes)
