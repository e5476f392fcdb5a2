pub mod Digits
pub mod Numbers
pub mod Packets
pub mod Reading
pub mod Answers
pub mod Commands
pub mod Laws
