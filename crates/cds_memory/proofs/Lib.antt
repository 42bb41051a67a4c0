pub mod Ascending
pub mod Items
