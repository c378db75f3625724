pub mod Tables
pub mod Mixing
pub mod Bytes
pub mod MixedBytes
pub mod Scrolled
pub mod Expanded
