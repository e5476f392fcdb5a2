-- Two worlds, and runs of events.
pub mod Promises
