mod Cases
pub mod CutLemmas
pub mod EditLines
pub mod FirstWordLemmas
pub mod FormLemmas
pub mod LineLemmas
pub mod NameLemmas
pub mod NumberLemmas
pub mod ParseLemmas
pub mod ReplayLemmas
pub mod ScriptLaws
pub mod TakenLemmas
pub mod WordLemmas
