-- Worked cases: what is so, and what is refused. A definition that is turned fails one of them.
pub mod Apart
pub mod Statements
pub mod Told
