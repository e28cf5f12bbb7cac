pub mod Joining
pub mod Moving
