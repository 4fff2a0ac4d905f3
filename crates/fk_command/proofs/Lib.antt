pub mod Refusals
pub mod Keys
pub mod ReadValues
pub mod Elements
pub mod RefusalsPut
pub mod Batches
pub mod Answerable
