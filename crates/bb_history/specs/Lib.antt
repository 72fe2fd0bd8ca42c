-- To be believed: public clauses cite these, or what these say.
pub use Rattle.bb_bucket.specs.Calls
pub use Rattle.bb_bucket.specs.Kind
pub use Rattle.bb_circular.specs.Circular
pub use Rattle.bb_circular.specs.Entries as CircularEntries
pub use Rattle.bb_copies.specs.Passing
pub use Rattle.bb_layout.specs.Convert
pub use Rattle.bb_layout.specs.Kept
pub use Rattle.bb_state.specs.Kinds
pub use Rattle.bb_state.specs.Lines as StateLines
pub mod Entries
pub mod History
pub mod Lines
pub mod Newest
-- Inside: what the steps of a reading promise.
pub mod Reading
