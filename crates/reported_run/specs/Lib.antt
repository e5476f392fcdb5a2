pub mod Asked
pub mod Ends
pub mod Known
pub mod Ranges
pub mod Sent
pub mod Stops
