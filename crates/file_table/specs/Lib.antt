pub mod Named
pub mod OpenFiles
