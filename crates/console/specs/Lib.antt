pub mod Input
pub mod Puts
pub mod Start
pub mod Text
