pub mod Leasing
pub mod Standing
pub mod Alike
pub mod ByJid
pub mod Rooms
pub mod FirstAndDue
pub mod Together
