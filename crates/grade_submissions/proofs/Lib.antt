pub mod Noting
pub mod Telling
pub mod Going
pub mod Working
pub mod Counting
pub mod Planning
pub mod Decoding
pub mod Handed
pub mod Making
pub mod Collecting
mod Worked
mod WorkedEncodings
mod WorkedFaults
mod WorkedGivens
mod WorkedPipes
