pub mod Amounts
pub mod Cells
pub mod Cents
pub mod Counts
pub mod Posting
pub mod Statements
pub mod Used
