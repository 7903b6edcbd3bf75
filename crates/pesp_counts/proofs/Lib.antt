mod Cases
pub mod Applied
pub mod Asks
pub mod Bridge
pub mod Carried
pub mod Changed
pub mod Gone
pub mod Housed
pub mod Keeping
pub mod Loosened
pub mod Propagated
pub mod ReachLaws
pub mod Relinked
pub mod Remade
pub mod Supported
pub mod Told
pub mod Union
pub mod Worked
