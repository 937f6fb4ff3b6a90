pub mod Members
pub mod Searching
pub mod OwnBytes
pub mod Verdict
pub mod Typed
