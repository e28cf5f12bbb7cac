pub mod Balanced
pub mod Gathered
pub mod Written
pub mod Placed
