pub mod Lines
pub mod Listed
