pub mod ArgTexts
pub mod Building
pub mod Plans
