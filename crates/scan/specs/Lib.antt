pub mod Cuts
pub mod Columns
pub mod Symbols
pub mod Atoms
pub mod Terms
pub mod Address
