pub mod Space
pub mod Translations
pub mod Changes
pub mod Absent
pub mod Permits
pub mod PlainPrice
pub mod InPlace
pub mod Steps
