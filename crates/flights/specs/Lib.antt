pub mod Faults
pub mod Flights
pub mod Issues
pub mod Kept
pub mod Stands
pub mod Watch
