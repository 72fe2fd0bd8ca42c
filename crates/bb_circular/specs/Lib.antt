-- Definitions that contracts cite. These a reader has to believe.
pub use Rattle.bb_bucket.specs.Kind
pub use Rattle.bb_flash.specs.Image
pub mod Circular
pub mod Entries
pub mod Pages
pub mod Wear
-- Inside: what the steps of a look promise, and what follows of a log, of which its laws are made.
pub mod CircularLaws
pub mod EntryLaws
pub mod Looking
pub mod PagesLaws
pub mod PutLaws
