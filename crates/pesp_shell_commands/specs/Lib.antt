pub mod Forms
pub mod LineFaults
pub mod Parsed
pub mod Replayed
pub mod Words
