pub mod Between
pub mod Changes
pub mod Pieces
pub mod Values
