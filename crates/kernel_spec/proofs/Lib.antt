mod Prelude
pub mod Common
pub mod worked
pub mod rows
pub mod calls
pub mod steps
pub mod well
pub mod waking
pub mod turns
pub mod runs
pub mod memory
