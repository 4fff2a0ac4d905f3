pub mod Order
pub mod Room
pub mod Depth
pub mod Shape
pub mod Side
pub mod Sound
