pub mod Steps
pub mod Moments
pub mod Since
pub mod DiskState
pub mod Held
pub mod Past
pub mod Present
pub mod Memory
