-- Definitions that contracts cite.

-- to be believed: what stands outside of a script's language, its variables, what `echo` and
-- `test` do, and what a script means
pub mod Outside
pub mod Assigned
pub mod Variables
pub mod Echo
pub mod Test
pub mod Standing
pub mod Means
-- how a run is tied to that
pub mod Runs
