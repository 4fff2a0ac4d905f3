mod Ways
pub mod Turning
mod Writing
mod Giving
mod Gives
mod Wanted
mod Cut
mod Breaks
mod Ends
mod Hearing
mod Starving
mod Replying
pub mod Crashing
