pub mod Files
pub mod Passed
pub mod Writes
pub mod Settling
pub mod Appending
pub mod Spelled
pub mod Readings
mod Taking
mod Due
