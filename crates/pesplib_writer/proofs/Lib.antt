mod Cases
pub mod ActivityLaws
pub mod EndLaws
pub mod FieldLaws
pub mod FileLaws
pub mod OrderLaws
pub mod RecordLaws
pub mod RowLaws
pub mod ScriptLaws
pub mod TimeLaws
