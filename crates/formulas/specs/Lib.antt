pub mod Adjustment
pub mod Basis
pub mod Cases
pub mod Figures
pub mod Laws
pub mod Sums
