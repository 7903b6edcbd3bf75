mod Cases
pub mod DomainLemmas
mod DrawnCases
pub mod Refused
pub mod SpacedLemmas
pub mod TranscriptLemmas
pub mod UniqueLemmas
pub mod Written
