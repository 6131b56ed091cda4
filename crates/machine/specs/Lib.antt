pub mod Bounds
pub mod Steps
pub mod Small
pub mod Runs
pub mod Acts
pub mod Model
pub mod Laws
