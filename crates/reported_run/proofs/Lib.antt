mod Learned
mod Stopped
mod Stretches
mod WorkedKnown
