mod Cases
pub mod Effects
pub mod Given
pub mod Housed
pub mod Linked
pub mod Links
pub mod Listed
pub mod Made
pub mod Numbers
pub mod PutLast
pub mod Refused
pub mod Relisted
pub mod Rising
pub mod Tables
pub mod Vertices
