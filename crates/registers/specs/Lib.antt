pub mod Counts
pub mod Refusals
pub mod Sizes
pub mod Commands
pub mod Parameters
pub mod Pending
pub mod Cursor
pub mod Layout
