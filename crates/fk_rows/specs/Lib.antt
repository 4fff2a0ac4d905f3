pub mod Room
pub mod Order
pub mod Chunks
pub mod Searches
pub mod Spots
pub mod Table
