pub mod Units
pub mod Settings
pub mod SetTimes
