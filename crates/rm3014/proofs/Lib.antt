pub mod CodeLaws
pub mod VerdictLaws
pub mod OriginalLaws
pub mod Examples
pub mod Retired
