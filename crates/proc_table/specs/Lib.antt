pub mod Channels
pub mod Processes
pub mod Slots
pub mod Turns
pub mod Reaping
pub mod Lending
