pub mod Tables
pub mod InPlace
pub mod Halves
pub mod Scrolled
pub mod MixedBytes
pub mod CodeLaws
