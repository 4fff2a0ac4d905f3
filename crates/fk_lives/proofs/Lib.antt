pub mod Fronts
pub mod Headers
pub mod PieceLists
pub mod Good
pub mod OneState
pub mod WellKept
pub mod OneDamage
pub mod Onward
pub mod Choices
pub mod FitOrNot
pub mod ReadOrNot
pub mod PieceOrNot
pub mod StandOrNot
pub mod AsWithout
mod ReservedOnDisk
mod Additions
mod Rests
mod Runs
mod LivePushes
mod LiveTickets
mod BroughtRows
pub mod Doubts
pub mod AfterCrash
pub mod Moments
pub mod Roads
