pub mod Pairs
pub mod Endings
pub mod Forms
pub mod Days
pub mod Written
pub mod Decided
