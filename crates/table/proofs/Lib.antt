pub mod Ordered
pub mod Orders
