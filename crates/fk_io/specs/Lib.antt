pub mod Content
pub mod Faults
pub mod SourceState
pub mod Progress
pub mod SinkState
pub mod Telling
pub mod Generator
