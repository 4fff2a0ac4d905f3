pub mod Turning
pub mod Crashing
pub mod Session
pub mod Answering
