pub mod Send
pub mod Sound
