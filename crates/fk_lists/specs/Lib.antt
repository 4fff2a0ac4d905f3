pub mod Room
pub mod Sizes
pub mod Least
pub mod Places
pub mod PairLists
