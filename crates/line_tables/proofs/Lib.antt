pub mod Entries
mod Passes
mod Steps
pub mod Whole
pub mod WorkedFacts
pub mod WorkedFrames
pub mod WorkedLines
pub mod WorkedNames
pub mod WorkedTexts
