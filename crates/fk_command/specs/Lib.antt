pub mod Commands
pub mod Verbs
pub mod Refusals
pub mod Batches
