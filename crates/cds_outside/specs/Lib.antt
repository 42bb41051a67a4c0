pub mod Asked
pub mod Datagrams
pub mod Entries
pub mod Links
pub mod Outside
pub mod Told
