pub mod Ends
pub mod Links
pub mod Lists
pub mod Places
pub mod Shared
