pub mod Left
pub mod Reading
pub mod Records
pub mod RowFields
pub mod Rows
pub mod Taking
