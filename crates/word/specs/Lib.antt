pub mod Sign
pub mod Bytes
pub mod Word
pub mod Field
