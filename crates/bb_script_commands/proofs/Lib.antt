-- Lemmas.
pub mod Naming
pub mod Saving
pub mod Booting
pub mod Replying
pub mod Joining
pub mod Counted
pub mod Whole
pub mod Listing
pub mod PlayedCalls
pub mod Mirrors
pub mod PlayedScripts
pub mod FewRounds
pub mod SoundCalls
pub mod Parts
pub mod Fronts
pub mod Unfailing
