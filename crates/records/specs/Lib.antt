pub mod Meaning
pub mod Moved
