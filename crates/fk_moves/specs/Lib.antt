pub mod Spelling
pub mod Lists
pub mod Writing
pub mod Fields
pub mod Parts
