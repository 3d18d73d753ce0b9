mod ByRunning
mod ByRounds
mod Listed
mod Unsound
