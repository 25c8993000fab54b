pub mod Answers
pub mod BlockLists
pub mod KindsRead
pub mod Lengths
pub mod OptionOctets
mod OptionsBack
pub mod ReadBack
mod Runs
mod Storing
