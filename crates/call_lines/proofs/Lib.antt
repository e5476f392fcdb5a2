pub mod Reading
mod Worked
