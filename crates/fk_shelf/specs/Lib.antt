pub mod ShelfState
pub mod Held
pub mod Opening
pub mod Making
