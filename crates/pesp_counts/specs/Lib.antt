pub mod Keeping
pub mod Loosened
pub mod Changes
pub mod Reached
pub mod Restores
pub mod Support
pub mod Works
