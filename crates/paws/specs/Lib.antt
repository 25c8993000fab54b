pub mod History
pub mod Runs
pub mod Premises
pub mod Claim
pub mod Segments
pub mod Wrapping
pub mod Limits
