pub mod Packing
pub mod Lines
pub mod Segments
pub mod Places
pub mod FrameCases
pub mod HalfLaws
pub mod Pixels
pub mod Examples
