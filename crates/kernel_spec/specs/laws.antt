-- What follows: the statements that are proved.
pub mod Worlds
pub mod RowLaws
pub mod StepLaws
pub mod Replays
pub mod FirstLaws
pub mod RoundLaws
pub mod WakeLaws
pub mod ConditionLaws
