pub mod Actions
pub mod Acts
pub mod DecodeCache
pub mod PageActions
pub mod PageActs
