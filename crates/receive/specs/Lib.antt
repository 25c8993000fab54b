pub mod Ranges
pub mod Window
pub mod Taking
pub mod Sound
pub mod Coverage
pub mod Internal
