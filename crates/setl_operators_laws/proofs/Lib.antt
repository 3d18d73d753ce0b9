mod Numbers
mod Truths
mod Wholes
mod Folds
mod Takes
mod Operators
