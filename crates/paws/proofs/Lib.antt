mod Invariant
mod Opening
mod OtherCalls
mod Taking
mod Arrival
mod Written
pub mod Theorem
pub mod Steps
pub mod Places
mod WrappingHistory
mod WrappingOctets
mod WrappingRounds
pub mod Wrapping
pub mod Limits
