pub mod Gathering
pub mod Joined
pub mod Laws
pub mod Notify
pub mod Propertyset
pub mod Reading
pub mod Said
