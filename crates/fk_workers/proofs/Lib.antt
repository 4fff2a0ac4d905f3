pub mod Silence
pub mod Changing
pub mod Telling
pub mod Readied
pub mod HeldBack
