mod Walks
mod Links
