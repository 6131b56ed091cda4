pub mod Computed
pub mod Values
pub mod Areas
