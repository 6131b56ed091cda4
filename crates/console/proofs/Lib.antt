pub mod Fronts
pub mod Loading
pub mod Making
