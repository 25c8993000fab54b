pub mod Choices
pub mod Largest
pub mod Lists
pub mod Tests
