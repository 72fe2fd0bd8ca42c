-- The pattern of a layout's records: that of the tree of a record, in which the place of a variable
-- stands for its value.
use Rattle.std.specs.Prelude.{◌≡◌, ℕ, List, [], IsTrue, length}
use Rattle.bb_tree.specs.Node.{Branch}
use Rattle.bb_tree.specs.Blob.{blob_text}
use Rattle.bb_vars.specs.declared.kind.Kind.{Kind}
use Rattle.bb_vars.specs.declared.kind.Kind.TheVariants.{Uint8, Uint32, Enum32, Mac, Chars}
use Rattle.bb_layout.specs.Layout.{Laid, laid_len, recorded_of}
use Rattle.bb_layout.specs.Outside.{HoldsVarsAlone}
use Rattle.bb_layout.specs.Record.{Recorded, record_tree_by, record_tree_of}
use Rattle.bb_layout.specs.declared.var.Var.{Var}
use Rattle.bb_dtbrec.specs.declared.piece.Piece.{Piece}
use Rattle.bb_dtbrec.specs.declared.piece.Piece.TheVariants.{Fixed, Value}
use Rattle.bb_dtbrec.specs.declared.piece.Place.{Place}
use Rattle.bb_dtbrec.specs.declared.piece.Spelling.{Spelling}
use Rattle.bb_dtbrec.specs.declared.piece.Spelling.TheVariants.{ByteAsCell, NumberAsCell, AsIs}
use Rattle.bb_dtbrec.specs.Dtb.{Pattern, dtb_fits, dtb_length, dtb_text}
use Rattle.bb_dtbrec.specs.Trees.{blob_with_crc, pattern_of}

-- how a value of that kind is spelt
abbrev pub spelling_of : Kind → Spelling
spelling_of Uint8 = ByteAsCell
spelling_of Uint32 = NumberAsCell
spelling_of (Enum32 names) = NumberAsCell
spelling_of Mac = AsIs
spelling_of (Chars size) = AsIs

-- where a variable stands in the area, and how its value is spelt
abbrev pub place_in_area : Var → Place
place_in_area v = record { at = v.at; size = v.size; spelling = spelling_of v.kind }

-- the field of a variable
abbrev pub field_for : Var → Piece
field_for v = Value (place_in_area v)

-- the tree of a record, with the fields of variables for their values
abbrev pub template_of : Recorded → Branch Piece
template_of recorded = record_tree_by (λ bytes. Fixed bytes) field_for recorded

-- the pattern of a layout's records
abbrev pub layout_pattern : Laid → Pattern
layout_pattern layout = pattern_of (template_of (recorded_of layout)) layout.area_len

-- what a pattern of a layout's records means: each record is the blob of the area's tree, with its
-- CRC, and of the areas of the right length those fit whose bytes outside the variables are 0, and
-- no others
pub record IsPatternOf (layout : Laid) (pattern : Pattern) : Type 0 where
  pub len : dtb_length pattern ≡ laid_len layout
  pub text : (area : List ℕ) → length area ≡ layout.area_len →
      dtb_text pattern area
      ≡ blob_with_crc
      (blob_text (record { root = record_tree_of (recorded_of layout) area; reserved = [] }))
  pub fits : (area : List ℕ) → length area ≡ layout.area_len →
      HoldsVarsAlone layout.vars area → IsTrue (dtb_fits pattern area)
  pub only : (area : List ℕ) → IsTrue (dtb_fits pattern area) → HoldsVarsAlone layout.vars area
