-- Two worlds, and runs of events.
pub mod Boot
pub mod AlikeSteps
pub mod Apart
pub mod Cuts
pub mod Plans
pub mod Replays
pub mod Sharing
pub mod Shown
pub mod Sources
pub mod Two
