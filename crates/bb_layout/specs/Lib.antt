-- Definitions that contracts cite.

-- What a reader has to believe: what public clauses cite.
pub mod Backend
pub mod Convert
pub mod Copies
pub mod Defaults
pub mod Facts
pub mod Family
pub mod Fields
pub mod Formats
pub mod Kept
pub mod Layout
pub mod Outside
pub mod Ranges
pub mod Record
pub mod Refusals
pub mod Results
pub mod StateNode
pub mod StateProps
pub mod Steps
pub mod Storage
pub mod Thirds
pub mod VarNames
pub mod VarType
pub mod Variables
-- Inside: what private contracts and proofs cite.
pub mod Spans
pub mod Walk
