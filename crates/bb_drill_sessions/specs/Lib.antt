-- Definitions that contracts cite. A reader has to believe all of them.
pub mod Documents
pub mod Commands
pub mod Plans
pub mod Rules
pub mod Undisturbed
pub mod Ends
-- A law of a trait.
pub mod Fresh
