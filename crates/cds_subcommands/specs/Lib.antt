pub mod Check
pub mod Found
pub mod Run
pub mod Scan
