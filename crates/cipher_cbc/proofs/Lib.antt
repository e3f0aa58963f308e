-- Laws of sealed frames: blocks in slices, the loop over blocks, opening after sealing, the key's schedule, refusals. CbcLaws has those for other crates.
pub mod SliceLaws
pub mod BlockLaws
pub mod OpenedLaws
pub mod KeyLaws
pub mod CbcLaws
pub mod RefusalLaws
