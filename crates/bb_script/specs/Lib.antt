-- Definitions that contracts cite.

-- to be believed: what a word is made of, the tokens of a text, the grammar as a table of places,
-- and the script of a text
pub mod Words
pub mod Pieces
pub mod Tokens
pub mod Tree
pub mod Places
pub mod Walk
pub mod Script
pub mod Fields
-- inside: what clauses see of a script, and the same walk in the pieces in which private functions
-- go through it
pub mod Views
pub mod TreeCode
pub mod Reading
pub mod Descent
pub mod TokenWalks
pub mod FieldsSoFar
