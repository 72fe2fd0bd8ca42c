use Rattle.std.proofs.Common.{◌≡◌, ◌-◌, min, ap, ◌∙◌, arith}
use Rattle.bb_circular.specs.Circular.{Circle, circular_holding}
use Rattle.bb_circular.proofs.circular.CircularBucket.most.Goals as goal

pub returns : goal.returns
returns c =
    let own : c.self.inside.most ≡ min c.self.inside.most (c.self.inside.block.region.size - 8) =
    omega (arith, c.self.invariant.fits) in
    own ∙ ap (λ (circle : Circle). (circular_holding circle).kind.most) c.self.view_is
