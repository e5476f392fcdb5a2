mod Prelude
pub mod Marking
pub mod Taken
mod Inside
mod Numerals
mod Patterns
mod WorkedPatterns
mod Worked
