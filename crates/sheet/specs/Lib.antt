pub mod Sheet
pub mod Record
