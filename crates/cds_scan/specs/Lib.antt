pub mod Faults
pub mod Found
pub mod Outcomes
pub mod Reading
pub mod Scanning
pub mod Walking
