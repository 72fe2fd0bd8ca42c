-- Lemmas.
pub mod Beside
pub mod Blanking
pub mod Comparing
pub mod Counting
pub mod Ending
pub mod Examples
pub mod Installing
pub mod Making
pub mod Parting
pub mod Pieces
pub mod Places
pub mod Putting
pub mod Refusing
pub mod Standing
pub mod Stepping
pub mod Turns
