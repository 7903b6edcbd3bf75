pub mod Domains
pub mod Kept
pub mod Loosening
pub mod Removals
pub mod Rows
pub mod Sweeps
