pub mod Takes
pub mod Steps
pub mod Decided
pub mod Texts
pub mod Names
pub mod Bits
pub mod Heads
pub mod Fronts
pub mod Blocks
pub mod Walks
pub mod Whole
pub mod Shapes
pub mod FieldForm
pub mod BodyForm
pub mod WalkForm
pub mod ListForm
pub mod WholeForm
mod Refusals
mod RefusedComments
mod RefusedBlocks
mod RefusedWhole
mod FaultComments
mod FaultBlocks
