pub mod AllKept
pub mod Along
pub mod Backwards
pub mod Clocked
pub mod Conversed
pub mod Displayed
pub mod FrameLines
pub mod HeldEnds
pub mod Left
pub mod Looking
pub mod PipeBytes
pub mod Played
pub mod Quiet
pub mod Reached
pub mod Results
pub mod Searched
pub mod Stretched
pub mod ToTicks
pub mod ToldOutput
pub mod ToldPipes
pub mod ToldProcesses
pub mod Unmet
mod WorkedAnswers
mod WorkedChosen
mod WorkedClock
mod WorkedDisplays
mod WorkedMarks
mod WorkedReasons
