use Rattle.std.proofs.Common.{◌≡◌, ◌-◌, min, ap, ◌∙◌, arith}
use Rattle.bb_bucket.specs.Stride.{SeenStride, stride_holding}
use Rattle.bb_bucket.proofs.stride.StrideBucket.most.Goals as goal

pub returns : goal.returns
returns c =
    let own : c.self.inside.most ≡ min c.self.inside.most (c.self.inside.region.size - 8) =
    omega (arith, c.self.invariant.fits) in
    own ∙ ap (λ (s : SeenStride). (stride_holding s).kind.most) c.self.view_is
