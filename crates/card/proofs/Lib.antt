pub mod Places
pub mod Rule
pub mod Blanks
pub mod Split
pub mod Parts
pub mod Arrays
pub mod Codes
pub mod Blocks
