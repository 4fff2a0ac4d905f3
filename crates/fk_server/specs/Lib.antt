pub mod Words
pub mod Outside
pub mod Serving
pub mod Piped
