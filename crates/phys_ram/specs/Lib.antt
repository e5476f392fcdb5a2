pub mod Lending
pub mod Ram
