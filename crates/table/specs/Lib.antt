pub mod Order
pub mod Keys
pub mod Pairs
pub mod Lex
