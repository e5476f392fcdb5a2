pub mod Fed
pub mod Pieces
pub mod SixteenDigits
pub mod Framed
pub mod NumbersBack
mod WorkedAnswers
mod WorkedCommands
