pub mod Differences
pub mod Arguments
pub mod TwoRooms
