pub mod ByCall
pub mod Causes
pub mod Children
pub mod Counts
pub mod Loads
pub mod Names
pub mod Reach
pub mod Reading
pub mod Rows
pub mod Steps
pub mod Told
pub mod Viewed
mod Worked
