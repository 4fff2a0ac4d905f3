pub mod Plans
pub mod Upkeep
pub mod Merging
pub mod Arrivals
pub mod Choosing
pub mod Taking
pub mod Tallies
