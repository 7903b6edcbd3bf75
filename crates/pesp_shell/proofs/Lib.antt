pub mod AnsweringLemmas
mod Cases
pub mod CheckLemmas
pub mod FaultlessSettings
pub mod FaultlessWords
pub mod Given
pub mod OpeningLemmas
pub mod Periods
pub mod ReadSettings
pub mod RowLemmas
pub mod SessionLemmas
