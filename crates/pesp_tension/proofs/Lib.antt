mod Cases
mod DrawnCases
pub mod Kept
pub mod Places
pub mod Timed
pub mod Walks
