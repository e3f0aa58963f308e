pub mod Listed
pub mod Relist
pub mod Replied
