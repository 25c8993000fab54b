pub mod Grammar
pub mod Kinds
pub mod Options
pub mod Reading
pub mod Readable
pub mod Part
pub mod SackBlocks
pub mod Internal
