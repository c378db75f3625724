pub mod Addresses
pub mod FontIndex
pub mod BlockBytes
pub mod CursorBytes
pub mod Columns
pub mod Dots
pub mod Accepting
pub mod Scrolling
