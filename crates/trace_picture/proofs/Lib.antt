pub mod Drawn
mod Texts
mod Letters
mod Lines
mod Numerals
pub mod Written
mod Phases
mod Named
mod Told
mod WorkedNames
mod WorkedNotes
mod WorkedRemarks
mod WorkedShapes
mod WorkedSvg
