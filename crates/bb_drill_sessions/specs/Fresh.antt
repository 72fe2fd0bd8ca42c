-- No copy passes on a fresh board, whatever its layout is.
use Rattle.std.specs.Prelude.{◌≡◌, Option, Some, None, refl}
use Rattle.bb_drill.specs.Board.{board_geometry, fresh_bytes, fresh_image}
use Rattle.bb_session.proofs.Kept.{found_none}
use Rattle.bb_session.specs.Looking.{passed_in}
use Rattle.bb_state.proofs.Blank.{erased_passes_nothing}
use Rattle.bb_state.specs.Keyed.{Keyed}
use Rattle.bb_drill_sessions.specs.Plans.{board_keyed}
use Rattle.bb_drill_sessions.specs.Rules.{session_rules, table_found}
use Rattle.std.proofs.Common.{sym}

none_at : (keyed : Option Keyed) → table_found keyed fresh_image ≡ None
unfolding fresh_image fresh_bytes
none_at None = refl
none_at (Some keyed) =
    sym
    (found_none (passed_in keyed board_geometry.page fresh_image)
    (erased_passes_nothing keyed board_geometry.page fresh_image
    (record { size = 768; bytes = refl })))

pub finds_none_fresh : session_rules.found fresh_image ≡ None
finds_none_fresh = none_at board_keyed
