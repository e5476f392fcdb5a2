pub mod Below
pub mod Coming
pub mod Ends
pub mod Fresh
pub mod Planned
pub mod Telling
pub mod Turning
pub mod Ways
pub mod PlayedOn
pub mod Rows
pub mod Sending
pub mod Serving
pub mod Shows
pub mod Stood
pub mod Using
pub mod Watching
mod WorkedBefore
mod WorkedBeginning
mod WorkedEnds
mod WorkedLetRun
mod WorkedRecord
mod WorkedRows
mod WorkedStepping
mod WorkedTouches
