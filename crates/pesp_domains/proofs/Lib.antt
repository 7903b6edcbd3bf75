pub mod Anew
pub mod Apart
pub mod Around
mod Cases
mod DrawnCases
pub mod Edits
pub mod Families
pub mod Laws
pub mod Opened
pub mod Passes
pub mod Pushes
pub mod Removals
pub mod RowLaws
pub mod Sweeps
pub mod Wider
