pub mod Lines
pub mod Buffer
