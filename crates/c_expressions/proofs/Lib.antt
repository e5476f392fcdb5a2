pub mod Answered
pub mod Complete
pub mod Longer
pub mod Named
pub mod Pieces
pub mod Read
pub mod TextsRead
mod WorkedAnswers
mod WorkedGrammar
mod WorkedLines
mod WorkedScopes
mod WorkedSelection
mod WorkedTokens
