pub mod Fronts
pub mod Carried
