pub mod Lines
pub mod Differing
pub mod Reading
pub mod Rooms
