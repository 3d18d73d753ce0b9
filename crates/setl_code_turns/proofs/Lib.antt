mod Moves
mod Instructions
mod Steps
mod Laws
