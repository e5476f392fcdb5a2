-- What every other process sees of a step.
pub mod Quiet
