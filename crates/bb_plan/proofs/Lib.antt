pub mod EntryPlans
pub mod Planned
pub mod Plans
pub mod Readings
pub mod Sizes
pub mod Sources
