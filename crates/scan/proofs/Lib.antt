pub mod Marks
pub mod Digits
pub mod Reading
pub mod Commas
pub mod Written
