pub mod Cards
pub mod Reader
pub mod CardReader
pub mod Tray
pub mod TrayRack
pub mod Lawful
pub mod Copying
