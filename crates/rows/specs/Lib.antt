pub mod Meaning
pub mod Phases
pub mod Sorts
pub mod Values
