mod Cases
pub mod CsvLemmas
pub mod FieldLemmas
pub mod FixedLemmas
pub mod GatheredLemmas
pub mod InstanceLemmas
pub mod LeftLemmas
pub mod PointLemmas
pub mod RowLemmas
pub mod TakingLemmas
