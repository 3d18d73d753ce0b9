mod Lists
mod Collecting
mod Staying
