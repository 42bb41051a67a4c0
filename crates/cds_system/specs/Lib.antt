pub mod Given
pub mod Near
