pub mod Joins
pub mod Opened
pub mod Flow
pub mod VariableLemmas
pub mod SimpleLemmas
pub mod RunLemmas
pub mod AssignedLemmas
pub mod Steady
