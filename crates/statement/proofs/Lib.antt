pub mod Gathered
pub mod Lines
pub mod Stamps
