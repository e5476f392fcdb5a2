pub mod Line
pub mod Memory
pub mod Strings
