-- Lemmas.
pub mod Examples
pub mod Refusals
pub mod Steps
pub mod Values
