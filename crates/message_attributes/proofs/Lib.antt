pub mod KeyLaws
pub mod ItemLaws
