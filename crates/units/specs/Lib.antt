pub mod Checks
pub mod Division
pub mod Ranges
pub mod Refusals
pub mod Stamps
pub mod Windows
