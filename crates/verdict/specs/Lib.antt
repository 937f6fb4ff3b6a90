pub mod Verdict
pub mod Sources
pub mod Alone
pub mod Search
