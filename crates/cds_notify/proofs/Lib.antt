pub mod Pieces
pub mod Bodies
pub mod Lengths
pub mod Gathered
pub mod Reading
pub mod Notes
pub mod Containers
