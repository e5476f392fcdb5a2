pub mod Expressions
pub mod Frames
pub mod Members
pub mod Numbers
pub mod Places
pub mod Sections
pub mod Spots
pub mod Texts
