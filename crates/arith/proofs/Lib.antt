pub mod Tens
pub mod Moves
