pub mod Places
pub mod Scans
mod Apart
pub mod Lines
pub mod Lengths
pub mod FirstLines
pub mod Found
pub mod Unread
pub mod Fronted
pub mod Searches
pub mod Cuts
