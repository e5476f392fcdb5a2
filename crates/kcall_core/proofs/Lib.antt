mod Prelude
pub mod worked
pub mod turns
pub mod runs
pub mod memory
pub mod table
pub mod making
pub mod processes
pub mod files
