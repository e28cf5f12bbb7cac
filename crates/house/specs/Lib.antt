pub mod Calls
pub mod Open
pub mod Readings
pub mod Rows
pub mod State
