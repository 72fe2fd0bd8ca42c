-- To be believed: public clauses cite these, or what these say. None is inside.
pub use Rattle.bb_base.specs.Number
pub mod Kind
pub mod Mac
pub mod Names
pub mod Refusals
pub mod RoundTrip
pub mod Setting
pub mod Table
pub mod Value
