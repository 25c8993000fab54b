pub mod Timer
pub mod Calls
pub mod Fractions
pub mod Exact
pub mod Demand
