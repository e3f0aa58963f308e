pub mod DigestLaws
pub mod SignedLaws
pub mod CoveredLaws
pub mod CallLaws
pub mod CountLaws
