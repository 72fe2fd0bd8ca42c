-- Definitions that contracts cite. These a reader has to believe.
pub use Rattle.bb_base.specs.Form
pub mod Dtb
pub mod Layouts
pub mod Trees
-- Inside: that this record is a format, that a check field by field is what passes, how a record
-- comes in pieces, and in which order the pieces of a pattern are written.
pub mod Checking
pub mod Feeding
pub mod Laws
pub mod LayoutPieces
pub mod Names
pub mod Pieces
pub mod Spine
