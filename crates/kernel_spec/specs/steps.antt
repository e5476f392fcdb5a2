-- What one step of a process comes to.
pub mod Own
pub mod Step
pub mod Updates
pub mod Instruction
pub mod Ticks
pub mod Waiting
pub mod KeptBytes
pub mod Cases
