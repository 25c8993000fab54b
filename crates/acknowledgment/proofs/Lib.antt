pub mod Answers
pub mod ReadBack
pub mod Said
pub mod Window
