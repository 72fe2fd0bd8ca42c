use Rattle.std.proofs.Common.{◌≡◌}
use Rattle.bb_flash.specs.Memory.{device_of}
use Rattle.bb_state.specs.State.{IsOn}
use Rattle.test_states.proofs.tests.steps.plays.Given as goal

abbrev pub invariant-loop-step : goal.invariant-loop-step
invariant-loop-step g l = record {
  geometry : l.board.geometry ≡ l.fn.board.geometry;
  on : IsOn l.state (device_of l.board);
}
