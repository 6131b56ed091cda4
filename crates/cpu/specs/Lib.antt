pub mod Registers
pub mod Decoding
pub mod Programs
pub mod Instructions
pub mod Executed
pub mod Parts
pub mod Laws
