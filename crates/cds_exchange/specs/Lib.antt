pub mod Asking
pub mod Readings
pub mod Honest
pub mod Laws
