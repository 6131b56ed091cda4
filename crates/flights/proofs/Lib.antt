pub mod Blocks
pub mod Bounds
pub mod Drains
pub mod Dues
pub mod Present
pub mod States
pub mod Stores
pub mod Watching
