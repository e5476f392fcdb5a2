pub mod views
pub mod rows
pub mod steps
pub mod others
pub mod waking
pub mod runs
pub mod laws
