pub mod Appends
mod WorkedTexts
mod WorkedTokens
