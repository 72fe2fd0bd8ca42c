-- To be believed: public clauses cite it. None is inside.
pub mod Actions
