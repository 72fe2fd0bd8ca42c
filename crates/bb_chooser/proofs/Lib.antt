-- Lemmas.
pub mod Alone
pub mod Best
pub mod Binds
pub mod Bound
pub mod Counts
mod Examples
pub mod Following
pub mod GivenSteps
pub mod Named
pub mod Places
pub mod Reading
pub mod Refusing
pub mod Resetting
pub mod Results
pub mod Texts
pub mod Writing
