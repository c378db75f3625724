pub mod Buffers
pub mod Decimal
pub mod Digits
mod Examples
pub mod Lengths
pub mod Rows
