mod Taken
mod Heads
mod Behind
mod Harms
mod Coming
mod UnderWay
mod Ends
pub mod Owing
pub mod Deciding
pub mod Settling
pub mod Enough
pub mod Framed
pub mod CarriedOut
pub mod Leaving
pub mod Turns
