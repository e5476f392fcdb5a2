pub mod Beginnings
pub mod Halving
mod WorkedBeginnings
