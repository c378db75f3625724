pub mod Buffers
pub mod Bytes
pub mod Calls
mod Example
pub mod FrameLines
pub mod Program
pub mod Short
pub mod Parts
pub mod Stream
pub mod Reading
