pub mod Answering
pub mod Given
pub mod Places
pub mod Plans
pub mod Terms
