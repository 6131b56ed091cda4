pub mod Bytes
pub mod Same
pub mod Cuts
mod Wholes
