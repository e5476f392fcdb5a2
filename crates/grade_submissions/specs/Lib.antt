pub mod Disks
pub mod Encodings
pub mod Files
pub mod Pipes
pub mod Givens
pub mod Plays
pub mod Results
