pub mod Starved
pub mod Uses
pub mod WorkedVariables
