-- To be believed: public clauses cite these.
pub mod Version
pub mod Order
pub mod Menu
-- Inside: only private contracts and proofs cite these.
pub mod Ranks
pub mod Reading
