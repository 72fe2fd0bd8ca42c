pub mod Blanks
mod Examples
pub mod TextAnswers
pub mod ValueSteps
