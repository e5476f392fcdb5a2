pub mod Apart
pub mod ApartLaws
pub mod Told
pub mod ToldLaws
