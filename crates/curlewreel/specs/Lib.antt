pub mod ModemCalls
pub mod HeadEndCalls
pub mod Read
pub mod Write
