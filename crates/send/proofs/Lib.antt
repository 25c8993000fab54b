pub mod AckRange
pub mod Largest
pub mod Laws
pub mod Refusal
pub mod Sound
