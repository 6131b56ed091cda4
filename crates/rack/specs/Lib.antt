pub mod Units
pub mod Transfers
pub mod Laws
