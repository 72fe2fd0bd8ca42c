-- Lemmas.
pub mod ByteWidths
pub mod Examples
pub mod Laws
pub mod MacRead
pub mod MacText
pub mod Names
pub mod Numbers
pub mod Pairs
pub mod Strings
pub mod TableRanges
