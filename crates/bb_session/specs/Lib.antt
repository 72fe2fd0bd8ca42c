-- Definitions that contracts cite. A reader has to believe all of them.
pub mod Acting
pub mod Around
pub mod Booting
pub mod Comparing
pub mod Doing
pub mod DrillLine
pub mod Exactly
pub mod Installing
pub mod Listing
pub mod Looking
pub mod Marking
pub mod Safe
pub mod Scripting
pub mod Session
pub mod SessionTurns
pub mod Work
pub mod WriteFault
