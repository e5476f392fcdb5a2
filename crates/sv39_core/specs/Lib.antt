pub mod Listed
pub mod Sv39
pub mod Tree
