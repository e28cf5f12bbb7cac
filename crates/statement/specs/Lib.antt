pub mod Finals
pub mod Gathered
pub mod Participants
pub mod Statements
