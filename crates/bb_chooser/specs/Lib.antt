-- To be believed: public clauses cite these, or what these say.
pub mod Binding
pub mod Choosing
pub mod Counting
pub mod Keys
pub mod Lines
pub mod Others
pub mod Refusals
pub mod Resets
pub mod Settings
pub mod Values
-- Inside: only private contracts and proofs cite these.
pub mod After
pub mod Faults
pub mod GivenSoFar
pub mod InLayout
pub mod Reading
pub mod References
pub mod ResetsOf
