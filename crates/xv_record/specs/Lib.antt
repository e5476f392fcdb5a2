pub mod Told
pub mod Text
pub mod Chosen
pub mod Growing
pub mod Reading
