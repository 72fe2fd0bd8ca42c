use Rattle.std.proofs.Common.{◌∙◌, sym}
use Rattle.bb_flash.specs.Memory.{device_of}
use Rattle.test_script_commands.proofs.tests.rig.loaded.Goals as goal

pub load-requires : goal.load-requires
load-requires c =
    c.in_ok-state.ensures.fresh (device_of c.args.board.now)
    (sym c.geometry-geometry.ensures.value ∙ sym c.in_ok-layout.ensures.geometry ∙ sym c.in_ok-state.ensures.geometry)
    c.geometry-geometry.ensures.whole
