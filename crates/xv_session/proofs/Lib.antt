pub mod Again
pub mod AtBoot
pub mod Children
pub mod GoesOn
pub mod LastRuns
pub mod LastSteps
pub mod NamesGo
pub mod NamesLive
pub mod Plays
pub mod Programs
pub mod RunsCounted
pub mod RunsMade
pub mod SearchedBack
pub mod Searches
pub mod Spans
pub mod Stretches
pub mod Texts
pub mod Unwatched
pub mod WhoMayRun
mod WorkedSpans
mod WorkedStanding
mod WorkedSteps
