mod Stopping
mod Slots
mod Meant
