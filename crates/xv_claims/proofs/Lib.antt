pub mod Apart
pub mod Asleep
pub mod Lasting
pub mod Told
mod worked
