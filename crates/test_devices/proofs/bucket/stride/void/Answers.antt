use Rattle.std.proofs.Common.{IsTrue, subst, sym}
use Rattle.bb_bucket.specs.Stride.{lies_on}
use Rattle.bb_flash.specs.declared.geometry.Geometry.{Geometry}
use Rattle.test_devices.proofs.Serving.{stride_serves}
use Rattle.test_devices.specs.Trials.{tried_stride}
use Rattle.test_devices.proofs.bucket.stride.void.Goals as goal

pub void-requires-clause-serves : goal.void-requires-clause-serves
void-requires-clause-serves c = stride_serves _ c.args.board.now.geometry c.requires.here c.requires.held

pub returns-clause-held : goal.returns-clause-held
returns-clause-held c =
    subst (λ (geometry : Geometry). IsTrue (lies_on tried_stride geometry)) (sym c.void.ensures.void.within.later.geometry) c.requires.held
