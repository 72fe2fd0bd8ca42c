use Rattle.std.proofs.Common.{◌*◌, ◌<◌, sym, subst, arith}
use Rattle.bb_bucket.specs.StrideLaws.{held_by}
use Rattle.test_devices.specs.Trials.{tried_stride}
use Rattle.test_devices.proofs.bucket.stride.set_health.Goals as goal

pub set_health-requires : goal.set_health-requires
set_health-requires c =
    let held = held_by tried_stride c.args.board.now.geometry c.requires.held in
    subst (λ page. c.args.page * page < c.args.board.now.geometry.size) (sym held.page) (omega (arith, held.inside))
