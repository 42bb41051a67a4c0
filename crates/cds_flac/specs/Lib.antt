pub mod Numbers
pub mod Comment
pub mod Step
pub mod Reading
pub mod Form
pub mod Agree
pub mod Examples
pub mod Refused
