pub mod Drawing
pub mod Blocks
pub mod Tallying
pub mod Meeting
