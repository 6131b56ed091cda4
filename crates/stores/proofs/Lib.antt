pub mod Written
pub mod Held
pub mod Made
