mod Scopes
mod BoundNames
