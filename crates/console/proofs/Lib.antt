pub mod Digits
pub mod Puts
