pub mod Failures
pub mod Ranges
pub mod Statuses
pub mod Programs
pub mod Given
