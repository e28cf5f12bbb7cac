pub mod Moved
pub mod Passes
pub mod Tranches
