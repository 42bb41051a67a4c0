pub mod Ranges
pub mod Plans
pub mod Heads
pub mod Sent
pub mod Examples
pub mod Laws
