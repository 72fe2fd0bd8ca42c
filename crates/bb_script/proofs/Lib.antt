pub mod WordLemmas
pub mod TokenLemmas
pub mod WalkLemmas
pub mod CommandLemmas
pub mod TextLemmas
pub mod FieldLemmas
pub mod Examples
