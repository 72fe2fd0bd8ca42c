use Rattle.std.proofs.Common.{◌≡◌, map}
use Rattle.std.specs.List.{range_with_len}
use Rattle.bb_layout.specs.Copies.{region_of}
use Rattle.bb_state.specs.State.{laid_of}
use Rattle.bb_session.proofs.history.regions_of.Given as goal

-- the regions of the copies so far
abbrev pub invariant-loop-copy : goal.invariant-loop-copy
invariant-loop-copy l =
    let laid = laid_of l.state in
    l.regions.items ≡ map (region_of laid.geometry laid.storage laid.region) (range_with_len 0 l.copy)
