-- The machine from boot on, event by event.
pub mod Run
pub mod Rounds
pub mod First
pub mod Sources
pub mod Moments
pub mod Outside
pub mod Alike
