pub mod Pool
pub mod Traded
