pub mod Ended
mod Worked
mod WorkedRuns
