pub mod Names
pub mod Order
pub mod Laws
pub mod Times
