pub mod Begun
pub mod DebugSettings
pub mod Lines
pub mod Records
pub mod Settings
pub mod Statuses
pub mod Stretches
pub mod Tells
