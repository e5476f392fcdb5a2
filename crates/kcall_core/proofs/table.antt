-- How a change of the process table, of one slot or of all, shows in the state.
pub mod Adopted
pub mod ByPid
pub mod Deserted
pub mod FirstWhole
pub mod FrameUses
pub mod InCall
pub mod NoProcess
pub mod Observed
pub mod OnePlace
pub mod OthersWake
pub mod Starting
pub mod States
pub mod Stops
pub mod Told
pub mod Woken
pub mod Zombies
