pub mod First
pub mod Keys
pub mod Mapped
pub mod Pass
pub mod Rows
