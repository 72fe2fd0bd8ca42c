-- Definitions that contracts cite.

-- to be believed: what a source spells, the grammar as a table of places, and the tree of a source
pub mod Characters
pub mod Numbers
pub mod Strings
pub mod Tokens
pub mod Places
pub mod Walk
pub mod Source
pub mod Refusals
-- inside: the same walk in the pieces in which private functions go through it
pub mod Descent
pub mod Outermost
pub mod Readers
