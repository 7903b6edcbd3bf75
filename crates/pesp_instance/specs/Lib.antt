pub mod Edited
pub mod Ends
pub mod Filled
pub mod Network
pub mod Stored
pub mod Table
