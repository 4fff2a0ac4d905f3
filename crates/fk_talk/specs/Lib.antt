pub mod Advance
pub mod Hearing
pub mod Talks
pub mod Steps
pub mod Whole
