mod Places
mod Found
mod Least
mod OverTime
mod Tabled
