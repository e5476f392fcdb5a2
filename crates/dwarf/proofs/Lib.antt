mod Prelude
pub mod Frames
pub mod Items
pub mod Leb
pub mod Loops
pub mod Times
pub mod WorkedAllFrames
pub mod WorkedFiles
pub mod WorkedFrames
pub mod WorkedLookup
pub mod WorkedNumbers
pub mod WorkedRows
pub mod WorkedUnits
