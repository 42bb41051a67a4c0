pub mod Spelled
pub mod Attributes
pub mod StateEvent
pub mod Refusal
pub mod Judged
pub mod Feeding
pub mod Laws
pub mod Examples
