pub mod Leases
pub mod Ends
