-- Slots and turns: whoever may run has its turn.
pub mod Chosen
pub mod GoneTurns
pub mod NextTurn
pub mod Rests
pub mod StepSlots
pub mod Turned
pub mod WhoRuns
