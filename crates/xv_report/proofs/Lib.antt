pub mod Sleepers
pub mod Ends
pub mod Frames
pub mod Unwound
pub mod Numbers
pub mod Guesses
pub mod Finding
pub mod CallNames
pub mod Named
mod WorkedCalls
mod WorkedHints
mod WorkedNumbers
mod WorkedPlaces
mod WorkedUnwound
