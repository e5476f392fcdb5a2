pub mod Fitting
pub mod Flags
pub mod Walks
