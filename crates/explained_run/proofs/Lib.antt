pub mod Ends
pub mod Joined
pub mod Rows
pub mod Texts
mod WorkedAsked
mod WorkedCounts
mod WorkedLines
mod WorkedPrograms
