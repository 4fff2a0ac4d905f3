pub mod Arrays
mod Says
mod Whole
mod Ends
mod Bytes
mod Strings
