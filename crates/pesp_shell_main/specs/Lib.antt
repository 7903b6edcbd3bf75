pub mod Checks
pub mod Endings
pub mod Faults
pub mod Files
pub mod Wiring
pub mod Work
