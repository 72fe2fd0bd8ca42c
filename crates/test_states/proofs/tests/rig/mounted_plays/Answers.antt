use Rattle.std.proofs.Common.{◌∙◌, sym}
use Rattle.bb_flash.specs.Memory.{device_of}
use Rattle.test_states.proofs.tests.rig.mounted_plays.Goals as goal

pub plays-requires : goal.plays-requires
plays-requires g c =
    c.in_ok-state.ensures.fresh (device_of c.args.board.now)
    (c.requires.geometry ∙ sym c.in_ok-state.ensures.geometry) c.requires.whole
