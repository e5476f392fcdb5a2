pub mod Asked
pub mod Cuts
pub mod Led
pub mod Places
pub mod Replays
pub mod Statuses
pub mod Taken
