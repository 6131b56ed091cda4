pub mod Acting
pub mod Calm
pub mod Counting
pub mod Joining
pub mod Running
pub mod Stepping
pub mod Writing
