pub mod Found
mod Worked
