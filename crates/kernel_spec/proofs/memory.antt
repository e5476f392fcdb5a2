-- The memories of the processes: whose each frame is, and what a change of one owner leaves of all others.
pub mod Bringing
pub mod OnAbsent
pub mod TextsByParts
pub mod UserBytes
