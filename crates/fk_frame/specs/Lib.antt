pub mod Bytes
pub mod Replies
pub mod Streams
pub mod Lines
pub mod Reading
pub mod Scanned
pub mod Fronts
