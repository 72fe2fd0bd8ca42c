-- Looks at the board of a drill, and what they find.
use Rattle.std.proofs.Common.{◌≡◌, ℕ, List, Option, Some, Result, Ok, Err, IfOk, ◌∙◌, refl, sym, ap, subst}
use Rattle.std.specs.Option.{ForSome}
use Rattle.std.proofs.lemmas.Option.{same_Some}
use Rattle.bb_bucket.specs.Calls.{IsQuiet, but_reads}
use Rattle.bb_drill.specs.Board.{OnlyLooks, board_geometry}
use Rattle.bb_flash.specs.Device.{Told, content}
use Rattle.bb_flash.specs.Memory.{Memory, device_of}
use Rattle.bb_flash.specs.declared.geometry.Geometry.{Geometry}
use Rattle.bb_plan.specs.Plan.{first_area}
use Rattle.bb_session.specs.Looking.{first_found, passed_in}
use Rattle.bb_state.specs.Keyed.{Keyed}
use Rattle.bb_drill_sessions.specs.Plans.{board_keyed}
use Rattle.bb_drill_sessions.specs.Rules.{table_first, table_found}

pub only_looks : (before after : Memory) → IsQuiet (device_of before) (device_of after) → OnlyLooks before after
only_looks before after quiet = record {
  geometry = quiet.later.geometry;
  state =
      ap (λ (t : Told). record { image = t.image; starts = t.starts; erases = t.erases })
      (same_Some (but_reads after.told) (but_reads before.told) quiet.told);
  start_faults = quiet.starts.start_faults;
}

-- what is found by the layout of the board
pub found_on : {E : Type 0} (result : Result (Option (List ℕ)) E) (keyed : Keyed) (board : Memory) →
    board.geometry ≡ board_geometry → board_keyed ≡ Some keyed →
    IfOk result (λ found. ForSome (content (device_of board))
    (λ image. found ≡ first_found (passed_in keyed (device_of board).geometry.page image))) →
    IfOk result (λ found. found ≡ table_found board_keyed board.told.image)
found_on (Err e) keyed board geometry is found = tt
found_on (Ok table) keyed board geometry is found =
    found board.told.image refl
    ∙ ap (λ (g : Geometry). first_found (passed_in keyed g.page board.told.image)) geometry
    ∙ sym (ap (λ (k : Option Keyed). table_found k board.told.image) is)

-- and the table where nothing is found
pub first_on : {E : Type 0} (result : Result (List ℕ) E) (keyed : Keyed) → board_keyed ≡ Some keyed →
    IfOk result (λ table. table ≡ first_area keyed.layout) → IfOk result (λ table. table ≡ table_first board_keyed)
first_on result keyed is first =
    subst (λ (k : Option Keyed). IfOk result (λ table. table ≡ table_first k)) (sym is) first
