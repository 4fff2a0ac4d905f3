pub mod Content
pub mod Faults
mod Pieces
mod Rest
pub mod Giving
