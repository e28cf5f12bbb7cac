pub mod Line
pub mod Meaning
pub mod Settled
pub mod Working
