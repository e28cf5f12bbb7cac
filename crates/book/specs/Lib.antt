pub mod Cents
pub mod Lines
pub mod Meaning
pub mod Statement
