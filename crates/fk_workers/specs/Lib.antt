pub mod Roll
pub mod Entries
