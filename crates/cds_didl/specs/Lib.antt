pub mod Spelled
pub mod Duration
pub mod Reading
pub mod Didl
pub mod Filter
pub mod Fragment
pub mod ReadBack
pub mod Plain
