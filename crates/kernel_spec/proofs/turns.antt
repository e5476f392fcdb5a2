-- Slots and turns: whoever may run has its turn.
pub mod KeepsSlots
pub mod Nearer
pub mod TurnComes
