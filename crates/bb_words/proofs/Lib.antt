-- Lemmas.
pub mod Areas
pub mod DrillExamples
pub mod Examples
pub mod FirstBadLemmas
pub mod GrammarLemmas
pub mod Signs
pub mod Steps
