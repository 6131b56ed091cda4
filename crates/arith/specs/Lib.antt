pub mod Sums
pub mod Pairs
pub mod Shifts
