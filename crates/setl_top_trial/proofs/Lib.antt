mod Lexing
mod TrialTree
mod Reading
mod Standing
mod Rules
