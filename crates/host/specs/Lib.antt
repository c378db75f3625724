pub mod Saved
pub mod Calls
pub mod Sending
