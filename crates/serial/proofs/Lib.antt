pub mod Clock
pub mod Distance
pub mod Offset
pub mod Order
pub mod TrueNumbers
