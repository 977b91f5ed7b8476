pub mod Changes
pub mod Sight
pub mod Promises
