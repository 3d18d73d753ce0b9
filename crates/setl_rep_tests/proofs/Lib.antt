mod Keeping
mod Walking
mod Changing
