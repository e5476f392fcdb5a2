pub mod Named
pub mod WorkedSymbols
mod WorkedSections
