-- Well-formed states stay so.
pub mod FirstWell
pub mod ForkWell
pub mod GoneWell
pub mod StaysWell
pub mod Sums
pub mod WaitWell
pub mod WellCloses
pub mod WellLaws
pub mod WellOpens
pub mod WellSteps
pub mod WellTable
