pub mod Deck
pub mod Causes
pub mod Ends
pub mod Image
pub mod Assembled
pub mod Model
pub mod Steps
