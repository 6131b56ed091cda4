pub mod Runs
pub mod Jobs
