pub mod Bounds
pub mod Cases
pub mod Conservation
pub mod Joining
pub mod Ring
pub mod Shares
pub mod Steps
pub mod Sums
