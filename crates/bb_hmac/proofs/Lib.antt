pub mod Blocks
pub mod Differences
mod Examples
pub mod Lengths
pub mod PairBytes
pub mod Refusals
