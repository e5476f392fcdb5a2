pub mod Broke
pub mod Joined
pub mod Kept
pub mod Led
pub mod Lines
pub mod Played
pub mod Typed
pub mod Waits
mod WorkedBreaks
mod WorkedKeeps
