pub mod Parts
pub mod Escapes
pub mod Lanes
pub mod Numbers
pub mod Plain
pub mod Wide
