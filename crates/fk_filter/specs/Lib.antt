pub mod Reads
pub mod Parts
pub mod Match
pub mod Stretches
