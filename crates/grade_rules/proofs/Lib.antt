pub mod Arrangements
pub mod Judgements
pub mod Sequences
mod Worked
