pub mod Grown
pub mod Lines
pub mod Refused
pub mod Taking
pub mod Whole
mod Worked
