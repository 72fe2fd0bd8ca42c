-- To be believed: public clauses cite these, or what these say. None is inside.
pub mod Answer
pub mod FirstBad
pub mod Grammar
pub mod Options
pub mod Table
pub mod Words
