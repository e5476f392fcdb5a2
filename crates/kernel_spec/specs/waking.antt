-- Who sleeps, who wakes, and whose turn it is.
pub mod Ready
pub mod Conditions
pub mod Wakes
pub mod SleepsOn
pub mod Turns
