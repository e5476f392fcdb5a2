-- Worked cases of what is said of a machine: what is so of it, and what is refused. A definition that is turned fails one of them.
pub mod Boots
pub mod Devices
pub mod Drives
pub mod Frames
pub mod Notes
pub mod Reached
pub mod Sound
