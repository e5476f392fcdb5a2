-- The rows of the call table, and the words that they are said in.
pub mod Calls
pub mod Lines
pub mod Buffers
pub mod Terminal
pub mod Stores
pub mod Touches
pub mod Tables
pub mod Sizes
pub mod Execs
