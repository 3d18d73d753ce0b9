mod Cases
mod Telling
mod Ending
mod Names
