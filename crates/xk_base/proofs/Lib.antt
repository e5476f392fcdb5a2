pub mod Bytes
mod ChainRows
pub mod Frames
pub mod Gathered
pub mod Laid
pub mod Least
mod LoadedRows
pub mod Maps
pub mod Numbers
pub mod Options
pub mod Words
