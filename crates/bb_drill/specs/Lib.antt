-- Definitions that contracts cite. A reader has to believe all of them.
pub mod Draws
pub mod Tables
pub mod Board
pub mod Drill
-- Inside: only private contracts and proofs cite these.
pub mod Running
