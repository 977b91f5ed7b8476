pub mod Listed
pub mod Sums
