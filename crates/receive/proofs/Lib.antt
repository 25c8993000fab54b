pub mod Coverage
pub mod Edge
mod Joining
pub mod Opening
pub mod Order
pub mod Parts
pub mod Room
pub mod Slots
mod Soundness
pub mod Taken
pub mod Unsound
