pub mod ContainerLaws
pub mod Containers
pub mod Examples
pub mod Events
pub mod Laws
pub mod MarkLaws
pub mod EventsWithParents
pub mod Subtrees
