pub mod Checked
pub mod Opening
pub mod Runs
pub mod Sessions
pub mod Settings
