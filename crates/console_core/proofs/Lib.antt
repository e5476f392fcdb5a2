pub mod Echoes
pub mod KeyKeeps
