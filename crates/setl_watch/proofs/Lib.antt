mod Telling
mod Counting
mod Profiling
mod Parts
