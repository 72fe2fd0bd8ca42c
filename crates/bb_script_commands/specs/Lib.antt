-- Definitions that contracts cite. A reader has to believe all of them.
pub use Rattle.bb_chooser.specs.Choosing
pub use Rattle.bb_interpreter.specs.Outside
pub use Rattle.bb_interpreter.specs.Runs
pub use Rattle.bb_shell.specs.Boot
pub use Rattle.bb_shell.specs.Ends
pub use Rattle.bb_shell.specs.Running
pub use Rattle.bb_shell.specs.Sequence
pub use Rattle.bb_state.specs.State
pub mod Held
pub mod OutsideWords
pub mod StateNames
pub mod Sending
pub mod Ran
pub mod Calling
pub mod Playing
pub mod Scripts
