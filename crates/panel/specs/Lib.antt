pub mod Panel
pub mod Chips
pub mod Step
pub mod Trace
pub mod Promises
pub mod LatchPromises
pub mod Stores
pub mod AnyOrder
