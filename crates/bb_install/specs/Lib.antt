-- Definitions that contracts cite. These a reader has to believe.
pub mod Beside
pub mod Holding
pub mod Ranges
pub mod Slot
pub mod Steps
pub mod Writing
-- Inside: what parts of a comparison find, and what one call on a slot leaves.
pub mod Compared
pub mod Parts
