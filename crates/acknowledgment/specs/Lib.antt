pub mod Acknowledgment
pub mod ReadBack
