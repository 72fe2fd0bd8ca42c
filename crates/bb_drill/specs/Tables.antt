-- Tables: what a program makes of them, and which a load may give after cuts and decays.
use Rattle.std.specs.Prelude.{ℕ, Bool, List, [], ◌∷◌, ◌++◌, Option, unwrap_or}
use Rattle.std.specs.List.{list_any}
use Rattle.std.specs.Str.{bytes_eq}
use Rattle.bb_flash.specs.Image.{Image}
use Rattle.bb_drill.specs.declared.command.DrillCommand.{DrillCommand}
use Rattle.bb_drill.specs.declared.sessions.SessionEnd.{SessionEnd}
use Rattle.bb_drill.specs.declared.sessions.SessionEnd.TheVariants.{Whole, Unread, Unwritten, NoMemory}

-- what the program takes for the table on a board, and what its sessions make of one
pub record TableRules : Type 0 where
  -- the table of the first copy that passes, if one does
  pub found : Image → Option (List ℕ)
  -- the table where none passes
  pub defaults : List ℕ
  -- the table that a session saves or keeps whose load gave this one
  pub made : DrillCommand → List ℕ → List ℕ

-- the table that a load gives
abbrev pub table_given : TableRules → Image → List ℕ
table_given rules image = unwrap_or (rules.found image) rules.defaults

-- The tables that a load may give after a session that was to make this one. They are the table of
-- the last save that was acknowledged, and those of later saves that were begun.
abbrev pub allowed_after : SessionEnd → List ℕ → List (List ℕ) → List (List ℕ)
allowed_after Whole made allowed = made ∷ []
allowed_after Unread made allowed = allowed
allowed_after Unwritten made allowed = allowed ++ made ∷ []
allowed_after NoMemory made allowed = allowed

-- this table is among them
abbrev pub has_table : List ℕ → List (List ℕ) → Bool
has_table table allowed = list_any (λ other. bytes_eq other table) allowed
