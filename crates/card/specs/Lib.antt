pub mod Table
pub mod Text
pub mod Lines
