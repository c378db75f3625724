pub mod SavedBytes
pub mod Outcomes
pub mod SentBytes
