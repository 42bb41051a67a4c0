pub mod Clocks
pub mod Datagrams
pub mod Doors
pub mod Exterior
pub mod Folders
pub mod Links
pub mod Memory
