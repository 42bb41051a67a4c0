pub mod Standing
pub mod StandingMore
pub mod Readings
pub mod Reaching
pub mod Stops
pub mod Steps
