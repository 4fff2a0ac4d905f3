pub mod Going
pub mod Overwriting
pub mod Cutting
mod Marks
mod Images
mod Written
mod CutShort
mod Synced
mod Elapsing
mod MadeCalls
mod Tearing
