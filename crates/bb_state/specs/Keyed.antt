-- A layout and its key.
use Rattle.std.specs.Prelude.{◌≡◌, ℕ, List, Option, is_some}
use Rattle.bb_layout.specs.Formats.{takes_key}
use Rattle.bb_layout.specs.Layout.{Laid}
use Rattle.bb_layout.specs.declared.format_kind.FormatKind.{FormatKind}

-- a layout with the block of its key (RFC 2104), if its records are kept under one
pub record Keyed : Type 0 where
  pub layout : Laid
  pub key : Option (List ℕ)

-- a key is given exactly where records of that format are kept under one
abbrev pub FitsKey : FormatKind → Option (List ℕ) → Type 0
FitsKey format key = is_some key ≡ takes_key format
