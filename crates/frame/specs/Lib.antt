pub mod Frame
pub mod Laws
pub mod Examples
