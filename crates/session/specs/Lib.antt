pub mod Output
pub mod Records
pub mod Carrying
pub mod File
pub mod Parts
pub mod Stream
pub mod Program
pub mod Reading
