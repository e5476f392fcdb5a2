mod Statuses
mod WorkedRanges
mod WorkedStatuses
