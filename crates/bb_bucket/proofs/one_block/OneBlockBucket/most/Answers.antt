use Rattle.std.proofs.Common.{◌≡◌, ◌-◌, min, ap, ◌∙◌, arith}
use Rattle.bb_bucket.specs.OneBlock.{SeenBlock, one_block_holding}
use Rattle.bb_bucket.proofs.one_block.OneBlockBucket.most.Goals as goal

pub returns : goal.returns
returns c =
    let own : c.self.inside.most ≡ min c.self.inside.most (c.self.inside.block.region.size - 8) =
    omega (arith, c.self.invariant.fits) in
    own ∙ ap (λ (s : SeenBlock). (one_block_holding s).kind.most) c.self.view_is
