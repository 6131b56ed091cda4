pub mod Reading
pub mod Rejections
pub mod Words
pub mod After
pub mod Defined
pub mod Lawful
