mod Prelude
pub mod WorkedNumbers
pub mod WorkedPlaces
