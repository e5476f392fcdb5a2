-- What a process is, what the machine holds, and what a process sees of it.
pub mod Words
pub mod Processes
pub mod State
pub mod View
pub mod PipeEnds
pub mod Programs
pub mod Codes
pub mod NewKernel
pub mod WellFormed
pub mod ByPid
pub mod Shared
