-- To be believed: public clauses cite it.
pub mod Entry
-- Inside: only private contracts and proofs cite it.
pub mod References
