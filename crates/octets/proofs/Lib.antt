pub mod HighestFirst
pub mod OctetsBack
mod Parts
pub mod ReadBack
pub mod Stores
