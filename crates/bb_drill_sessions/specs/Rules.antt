-- What a drill takes for the table on a board, and what its sessions make of one.
use Rattle.std.specs.Prelude.{ℕ, List, [], Option, Some, None, Result, Ok, Err, unwrap_or}
use Rattle.bb_drill.specs.Board.{board_geometry}
use Rattle.bb_drill.specs.Tables.{TableRules}
use Rattle.bb_flash.specs.Image.{Image}
use Rattle.bb_plan.specs.Plan.{EarlyEnd, SessionPlan, first_area}
use Rattle.bb_session.specs.Exactly.{last_area}
use Rattle.bb_session.specs.Looking.{first_found, passed_in}
use Rattle.bb_session.specs.Session.{answers_after}
use Rattle.bb_state.specs.Keyed.{Keyed}
use Rattle.bb_drill_sessions.specs.Plans.{board_keyed, drill_plan}

-- ---- over a layout

-- the table of the first copy that passes, if one does
abbrev pub table_found : Option Keyed → Image → Option (List ℕ)
table_found None image = None
table_found (Some keyed) image = first_found (passed_in keyed board_geometry.page image)

-- the table where none passes
abbrev pub table_first : Option Keyed → List ℕ
table_first None = []
table_first (Some keyed) = first_area keyed.layout

-- ---- over a plan

-- the table that it saves last after a load of this one, where nothing fails, or this one
abbrev pub made_by : SessionPlan → List ℕ → List ℕ
made_by plan table =
    unwrap_or (last_area plan (Some table) (answers_after plan (Ok (Some table)))) table

abbrev pub table_made : Result SessionPlan EarlyEnd → List ℕ → List ℕ
table_made (Ok plan) table = made_by plan table
table_made (Err end) table = table

-- ---- of the drill's own files and words

abbrev pub session_rules : TableRules
session_rules = record {
  found = table_found board_keyed;
  defaults = table_first board_keyed;
  made = λ command table. table_made (drill_plan command) table;
}
