pub mod Numbers
pub mod Givens
pub mod Patterns
pub mod Choices
pub mod Rules
pub mod Judged
pub mod Notes
