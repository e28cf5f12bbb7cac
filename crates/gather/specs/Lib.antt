pub mod Gathered
pub mod Viewed
