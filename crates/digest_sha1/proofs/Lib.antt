-- Laws of SHA-1: schedule, rounds, padding, blocks.
pub mod ScheduleLaws
pub mod RoundLaws
pub mod PadLaws
pub mod BlockLaws
