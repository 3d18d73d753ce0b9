mod Moves
mod Iterations
mod Expressions
mod Places
mod Statements
mod Steps
mod Laws
