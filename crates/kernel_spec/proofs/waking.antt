-- Who waits for what, what comes by each update, and that no wake-up is lost.
pub mod ByConditions
pub mod ChildWaits
pub mod GoneOpens
pub mod NoLost
pub mod Openings
pub mod TickWaits
pub mod WaitsOn
pub mod Wakes
