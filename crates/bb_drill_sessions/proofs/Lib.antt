-- Lemmas.
pub mod Plans
pub mod Starting
pub mod Tabled
pub mod Bounded
pub mod Whole
pub mod Making
pub mod Looked
