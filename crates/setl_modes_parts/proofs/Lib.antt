mod Lists
mod Images
mod Subsets
mod Parts
mod Puts
mod Combined
