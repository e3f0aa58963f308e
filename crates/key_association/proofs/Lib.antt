pub mod RecordLaws
pub mod MadeLaws
pub mod RollLaws
