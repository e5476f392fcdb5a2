pub mod Named
pub mod Symbols
pub mod Sections
