pub mod Again
pub mod Alone
pub mod Fronting
pub mod Printing
pub mod Reading
pub mod Writing
