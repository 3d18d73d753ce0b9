mod Readings
mod Places
mod Items
