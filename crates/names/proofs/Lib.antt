pub mod Lines
pub mod Keys
pub mod Rule
pub mod Found
pub mod Clock
