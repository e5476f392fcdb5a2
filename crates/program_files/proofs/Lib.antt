pub mod Failures
pub mod Statuses
mod WorkedFailures
mod WorkedPrograms
pub mod Read
