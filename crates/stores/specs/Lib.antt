pub mod Places
pub mod Blocks
pub mod Contents
pub mod Stores
pub mod Sound
