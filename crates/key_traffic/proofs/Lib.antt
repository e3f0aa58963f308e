pub mod NumbersLaws
pub mod FrameLaws
pub mod OctetsLaws
pub mod TrafficLaws
pub mod StoreLaws
