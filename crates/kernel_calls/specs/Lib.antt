pub mod Arguments
pub mod Table
pub mod Rows
pub mod Laws
