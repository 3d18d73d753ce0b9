mod Components
mod Images
mod Decided
mod ModeCodes
