pub mod Calls
mod Numbers
mod NewFile
mod Found
mod Opened
