mod Runs
mod Laws
mod Rows
mod LanguageRows
mod ByRunning
mod tables
