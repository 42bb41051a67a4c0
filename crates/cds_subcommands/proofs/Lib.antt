pub mod Feeding
pub mod Scanned
