pub mod Floor
pub mod Told
